-- In a folder that is not damaged the log up to damage is the whole log.
use Rattle.std.proofs.Common.{
  ◌≡◌,
  ℕ,
  ◌+◌,
  inl,
  inr,
  List,
  [],
  ◌∷◌,
  ◌++◌,
  take,
  drop,
  Contains,
  sym,
  ◌∙◌,
  ap,
  subst,
}
use Rattle.std.proofs.lemmas.List.{drop_more, take-append-drop}
use Rattle.std.proofs.lemmas.List.Elements.{
  Contains-append_cases,
  Contains-append_left,
  Contains-append_right,
}
use Rattle.clog_base.proofs.Members.{here, only_one}
use Rattle.clog_disk.specs.Files.{Files}
use Rattle.clog_scan.specs.Segment.{Entry}
use Rattle.clog_crash.specs.Damage.{AreSegmentFiles}
use Rattle.clog_crash.specs.Restore.{IsLogged, IsUndamaged}
use Rattle.clog_crash.specs.UpTo.{IsLoggedUpTo}
use Rattle.clog_crash.proofs.Good.{payload_is_said}

-- what stands in front of an element, and behind it
parted_at : (entries : List Entry) (entry : Entry) (listed : Contains entries entry)
    → entries ≡ take listed.0 entries ++ entry ∷ drop (listed.0 + 1) entries
parted_at entries entry listed =
    sym (take-append-drop listed.0 entries)
    ∙ ap (λ (l : List Entry). take listed.0 entries ++ l)
    (drop_more entries listed.0 entry listed.1
    ∙ ap (λ (e : Entry). e ∷ drop (listed.0 + 1) entries) listed.2)

pub up_to_it : (files : Files) (id : ℕ) (entry : Entry) → IsUndamaged files
    → AreSegmentFiles files → IsLogged files id entry → IsLoggedUpTo files id entry
up_to_it files id entry undamaged are is =
    let segment = is.segment in
    let front = take is.listed.0 is.entries in
    let behind = drop (is.listed.0 + 1) is.entries in
    let parted : is.entries ≡ front ++ entry ∷ behind = parted_at is.entries entry is.listed in
    record {
      name = is.name;
      entries = is.entries;
      end = is.end;
      segment = segment;
      front = front;
      behind = behind;
      parted = parted;
      said = λ e among.
          payload_is_said files is.name segment.bytes id is.entries is.end e undamaged segment.named
          segment.there (are is.name segment.bytes id segment.named segment.there) segment.holds
          (elim (Contains-append_cases front (entry ∷ []) e among) [
            | inl there ↦ subst (λ (l : List Entry). Contains l e) (sym parted)
                (Contains-append_left front (entry ∷ behind) e there)
            | inr it ↦ subst (λ (x : Entry). Contains is.entries x) (only_one entry e it) is.listed
          ]);
    }

pub of_the_log : (files : Files) (id : ℕ) (entry : Entry) → IsLoggedUpTo files id entry
    → IsLogged files id entry
of_the_log files id entry is = record {
  name = is.name;
  entries = is.entries;
  end = is.end;
  segment = is.segment;
  listed = subst (λ (l : List Entry). Contains l entry) (sym is.parted)
      (Contains-append_right is.front (entry ∷ is.behind) entry (here entry is.behind));
}
