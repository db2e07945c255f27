-- Where the log's segment ends, and that no later segment is there.
use Rattle.std.proofs.Common.{
  ◌≡◌,
  ℕ,
  ◌+◌,
  ◌<◌,
  ◌^◌,
  inl,
  inr,
  List,
  [],
  ◌∷◌,
  ◌++◌,
  length,
  take,
  drop,
  Option,
  Some,
  None,
  refl,
  sym,
  ◌∙◌,
  ap,
  subst,
  arith,
  length-append,
  append_assoc,
}
use Rattle.std.proofs.lemmas.List.{nil_from_length, take-append-drop}
use Rattle.std.proofs.lemmas.Option.{none-some}
use Rattle.std.specs.Prelude.{is_some, unwrap_or, ⊤}
use Rattle.clog_spec.specs.Names.{segment_name_of}
use Rattle.clog_disk.specs.Files.{AppendsTo, Files, IsEnd, SameTold, bytes_at}
use Rattle.clog_disk.proofs.Named.{put_here, put_there}
use Rattle.clog_scan.specs.Cut.{Section}
use Rattle.clog_crash.specs.Folder.{HasSegmentFile}
use Rattle.clog_crash.specs.Sections.{Brings, IsStored, segment_bytes}
use Rattle.clog_crash.proofs.changes.Names.{is_named, one_id}
use Rattle.clog_crash.proofs.changes.Nothing.{there_or_nothing}
use Rattle.clog_crash.proofs.rest.Rolling.{none_stored}
use Rattle.clog_segments.specs.Life.{HasEnd, ReadsAs}
use Rattle.clog_segments.specs.Opened.{IsRecovered, OpensAs}

-- the disk's files have not changed
pub end_same : (told now : Option Files) (id size : ℕ) (sections : List Section) → now ≡ told
    → HasEnd told id size sections → HasEnd now id size sections
end_same told now id size sections same end =
    subst (λ (o : Option Files). HasEnd o id size sections) (sym same) end

-- bytes were appended
pub end_kept : (told now : Option Files) (id size : ℕ) (sections all : List Section)
    (bytes : List ℕ) → AppendsTo told now (segment_name_of 6 id) bytes
    → segment_bytes id sections ++ bytes ≡ segment_bytes id all → IsStored id all
    → HasEnd told id size sections → HasEnd now id (size + length bytes) all
end_kept None now id size sections all bytes appends spelled stored end =
    let long : size + length bytes ≡ length (segment_bytes id all) = omega (
      arith,
      end.size_is,
      ap length spelled,
      length-append (segment_bytes id sections) bytes,
    ) in
    subst (λ (o : Option Files). HasEnd o id (size + length bytes) all) (sym appends)
    (record {
      stored = stored;
      size_is = long;
      here = tt;
      reads = tt;
      above = λ other over limit. tt;
    })
end_kept (Some f) now id size sections all bytes appends spelled stored end =
    let name = segment_name_of 6 id in
    let held = bytes_at f name ++ bytes in
    let long : size + length bytes ≡ length (segment_bytes id all) = omega (
      arith,
      end.size_is,
      ap length spelled,
      length-append (segment_bytes id sections) bytes,
    ) in
    subst (λ (o : Option Files). HasEnd o id (size + length bytes) all) (sym appends)
    (record {
      stored = stored;
      size_is = long;
      here = omega (
        arith,
        end.here,
        length-append (bytes_at f name) bytes,
        ap (λ (o : Option (List ℕ)). length (unwrap_or o [])) (put_here f name held),
      );
      reads = ap (λ (o : Option (List ℕ)). unwrap_or o []) (put_here f name held)
          ∙ ap (λ (l : List ℕ). l ++ bytes) end.reads ∙ spelled;
      above = λ other over limit.
          end.above other over limit
          ∙ ap (λ (o : Option (List ℕ)). length (unwrap_or o []))
          (sym (put_there f name held (segment_name_of 6 other)
          (λ same. let is = one_id id other stored.fits limit same in omega (arith, is, over))));
    })

-- bytes that bring one section more
pub spelled_more : (id n : ℕ) (sections : List Section) (x : Section) (bytes : List ℕ)
    → Brings id (take n sections) (drop n sections) (x ∷ []) bytes
    → segment_bytes id sections ++ bytes ≡ segment_bytes id (sections ++ x ∷ [])
spelled_more id n sections x bytes brings =
    let all : take n sections ++ (drop n sections ++ x ∷ []) ≡ sections ++ x ∷ [] =
    sym (append_assoc (take n sections) (drop n sections) (x ∷ []))
    ∙ ap (λ (l : List Section). l ++ x ∷ []) (take-append-drop n sections) in
    let before : segment_bytes id (take n sections ++ drop n sections) ≡ segment_bytes id sections =
    ap (segment_bytes id) (take-append-drop n sections) in
    ap (λ (l : List ℕ). l ++ bytes) (sym before) ∙ brings.spelled ∙ ap (segment_bytes id) all

-- they were appended
pub end_more : (told now : Option Files) (id size n : ℕ) (sections : List Section) (x : Section)
    (bytes : List ℕ) → AppendsTo told now (segment_name_of 6 id) bytes
    → Brings id (take n sections) (drop n sections) (x ∷ []) bytes
    → HasEnd told id size sections → HasEnd now id (size + length bytes) (sections ++ x ∷ [])
end_more told now id size n sections x bytes appends brings end =
    let all : take n sections ++ (drop n sections ++ x ∷ []) ≡ sections ++ x ∷ [] =
    sym (append_assoc (take n sections) (drop n sections) (x ∷ []))
    ∙ ap (λ (l : List Section). l ++ x ∷ []) (take-append-drop n sections) in
    end_kept told now id size sections (sections ++ x ∷ []) bytes appends
    (spelled_more id n sections x bytes brings) (subst (IsStored id) all brings.stored) end

-- a file that ends at its front reads as no bytes
empty_reads : (told : Option Files) (name : List ℕ) → IsEnd told name 0 → ReadsAs told name []
empty_reads None name end = tt
empty_reads (Some f) name end = nil_from_length (bytes_at f name) (sym end)

-- the log goes on in a later segment
pub end_rolled : (told : Option Files) (id next size : ℕ) (sections : List Section) → id < next
    → next < 2 ^ 63 → HasEnd told id size sections → HasEnd told next 0 []
end_rolled told id next size sections over limit end = record {
  stored = none_stored next limit;
  size_is = refl;
  here = end.above next over limit;
  reads = empty_reads told (segment_name_of 6 next) (end.above next over limit);
  above = λ other more within. end.above other (omega (arith, over, more)) within;
}

-- of a recovered folder no segment is there
module _ (first now : Files) (base : ℕ) (recovered : IsRecovered first base now) where
  nothing_at : (id : ℕ) → id < 2 ^ 63 → bytes_at now (segment_name_of 6 id) ≡ []
  nothing_at id fits = elim (there_or_nothing now (segment_name_of 6 id)) [
    | inr none ↦ none
    | inl there ↦ absurd (recovered.no_segment (
      segment_name_of 6 id,
      ap is_some there,
      (6, (id, is_named id fits)),
    ))
  ]

pub end_opened : (told now : Option Files) (moment base : ℕ) → SameTold told now
    → OpensAs told now moment base → base < 2 ^ 63 → HasEnd now base 0 []
end_opened None now moment base same opens fits =
    subst (λ (o : Option Files). HasEnd o base 0 []) (sym same) (record {
      stored = none_stored base fits;
      size_is = refl;
      here = tt;
      reads = tt;
      above = λ other over limit. tt;
    })
end_opened (Some f) None moment base same opens fits = absurd same
end_opened (Some f) (Some g) moment base same opens fits = record {
  stored = none_stored base fits;
  size_is = refl;
  here = sym (ap length (nothing_at f g base opens.recovered base fits));
  reads = nothing_at f g base opens.recovered base fits;
  above = λ other over limit.
      sym (ap length (nothing_at f g base opens.recovered other limit));
}

-- a folder that was opened has no segment
pub none_opened : (told now : Option Files) (moment base : ℕ) → OpensAs told now moment base
    → (f g : Files) → told ≡ Some f → now ≡ Some g → ¬ HasSegmentFile g
none_opened None now moment base opens f g is here = absurd (none-some f is)
none_opened (Some h) None moment base opens f g is here = absurd (none-some g here)
none_opened (Some h) (Some k) moment base opens f g is here =
    subst (λ (o : Option Files). Lacks o) here opens.recovered.no_segment
  where
    Lacks : Option Files → Type 0
    Lacks None = ⊤
    Lacks (Some x) = ¬ HasSegmentFile x
