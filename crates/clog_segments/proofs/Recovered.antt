-- A folder in which everything lasts is recovered, where the disk tells its files.
use Rattle.std.proofs.Common.{
  ◌≡◌,
  ℕ,
  suc,
  List,
  [],
  ◌∷◌,
  Option,
  Some,
  None,
  refl,
  sym,
  ap,
  subst,
  ◌∙◌,
  ◌⊎◌,
  inl,
  inr,
  ◌++◌,
  map,
  append_assoc,
  arith,
}
use Rattle.std.specs.Prelude.{Contains, IfSome, IsSome, Result, Ok, Err, OnOk, OnErr, option_map}
use Rattle.std.proofs.lemmas.List.{append-nil, map-append}
use Rattle.std.specs.FinMap as finmap
use Rattle.clog_base.proofs.Members.{nothing_there}
use Rattle.clog_spec.specs.Names.{segment_name_of, table_name_of}
use Rattle.clog_disk.specs.declared.change.Change.{Change}
use Rattle.clog_disk.specs.Files.{Files, IsAbsent, MayPutAt, PutsAt, Told, bytes_at}
use Rattle.clog_disk.specs.Images.{IsImage, LastsAs, TurnsTo}
use Rattle.clog_disk.proofs.Named.{put_here, gone_here, gone_there}
use Rattle.clog_table.specs.declared.table_file.TableFile.{TableFile}
use Rattle.clog_crash.specs.Flush.{IsSameFolder, AllCovered, IsCoveredHere}
use Rattle.clog_crash.specs.Folder.{IsHeld}
use Rattle.clog_crash.proofs.flush.NewFile.{beside}
use Rattle.clog_crash.proofs.flush.Recovered.{
  same_then,
  settled_images,
  folder_turns,
  folder_settles,
  file_comes,
  segment_goes,
  still_covered,
}
use Rattle.clog_segments.specs.Coming.{
  IsRecovering,
  MayComeHere,
  MayComeTo,
  Recovers,
  AreGone,
  AreThere,
  HaveRemoved,
  removal,
}

-- what was done, or may have been
which : {A E : Type 0} (result : Result A E) (P Q : Type 0) → OnOk result Q
    → OnErr result (P ⊎ Q) → P ⊎ Q
which (Ok x) P Q puts maybe = inr puts
which (Err e) P Q puts maybe = maybe

none_covered : (f : Files) → AllCovered f []
none_covered f id h = absurd (nothing_there id h)

first_listed : (id : ℕ) (ids : List ℕ) → Contains (id ∷ ids) id
first_listed id ids = (0, omega arith, refl)

later_listed : (id other : ℕ) (ids : List ℕ) → Contains ids other → Contains (id ∷ ids) other
later_listed id other ids h = (suc h.0, omega (arith, h.1), h.2)

-- ---- each image before the call

pub here_show : (first : Files) (told : Option Files)
    (leaves : List ℕ → Option (List ℕ) → Type 0) (segments : List ℕ)
    → IsRecovering first told leaves segments → (image : Files) → IsImage leaves image
    → IsSameFolder first image
here_show first None leaves segments is image left = absurd is
here_show first (Some f) leaves segments is image left =
    same_then first f image is.1 (settled_images f leaves is.0 image left)

pub here_for_file : (first : Files) (told : Option Files)
    (leaves : List ℕ → Option (List ℕ) → Type 0) (file : TableFile) (sequence : ℕ)
    (bytes : List ℕ) → MayComeHere first told leaves file sequence bytes
    → IsRecovering first told leaves []
here_for_file first None leaves file sequence bytes may = absurd may
here_for_file first (Some f) leaves file sequence bytes may = (may.0, may.1, none_covered f)

module _ (first : Files) (leaves later : List ℕ → Option (List ℕ) → Type 0) (name : List ℕ) where
  -- ---- a table file comes

  module _ (file : TableFile) (sequence : ℕ) (bytes : List ℕ)
      (is : name ≡ table_name_of file.table.0 sequence)
      (turns : TurnsTo leaves later name (Some bytes)) where
    abbrev t : List ℕ
    t = table_name_of file.table.0 sequence

    turns_here : TurnsTo leaves later t (Some bytes)
    turns_here = subst (λ (n : List ℕ). TurnsTo leaves later n (Some bytes)) is turns

    pub file_shows : (told : Option Files)
        → MayComeHere first told leaves file sequence bytes → (image : Files)
        → IsImage later image → IsSameFolder first image
    file_shows None may image left = absurd may
    file_shows (Some f) may image left =
        same_then first f image may.1
        (folder_turns f (finmap.insert f t bytes) t (Some bytes)
        (beside f (bytes_at f) file sequence bytes may.2) (put_here f t bytes)
        (file_comes f file sequence bytes may.0.undamaged may.2) leaves later turns_here may.0
        image left)

    pub file_settles : (told now : Option Files)
        → MayComeHere first told leaves file sequence bytes
        → PutsAt told now name (Some bytes) → LastsAs later name (Some bytes)
        → IsRecovering first now later []
    file_settles None now may puts lasts = absurd may
    file_settles (Some f) now may puts lasts =
        let g = finmap.insert f t bytes in
        let same = file_comes f file sequence bytes may.0.undamaged may.2 in
        subst (λ (o : Option Files). IsRecovering first o later [])
        (sym (subst (λ (n : List ℕ). PutsAt (Some f) now n (Some bytes)) is puts)) (
          folder_settles f g t (Some bytes) (beside f (bytes_at f) file sequence bytes may.2)
              (put_here f t bytes) same leaves later turns_here may.0
              (subst (λ (n : List ℕ). LastsAs later n (Some bytes)) is lasts),
          same_then first f g may.1 same,
          none_covered g,
        )

  -- ---- a segment goes

  module _ (id : ℕ) (others : List ℕ) (is : name ≡ segment_name_of 6 id)
      (turns : TurnsTo leaves later name None) where
    abbrev u : List ℕ
    u = segment_name_of 6 id

    gone_turns_here : TurnsTo leaves later u None
    gone_turns_here = subst (λ (n : List ℕ). TurnsTo leaves later n None) is turns

    covered : (f : Files) → AllCovered f (id ∷ others) → IsCoveredHere f id
    covered f all = all id (first_listed id others)

    pub segment_shows : (told : Option Files) → IsRecovering first told leaves (id ∷ others)
        → (image : Files) → IsImage later image → IsSameFolder first image
    segment_shows None may image left = absurd may
    segment_shows (Some f) may image left =
        same_then first f image may.1
        (folder_turns f (finmap.remove f u) u None (λ n apart. gone_there f u n apart)
        (gone_here f u) (segment_goes f id may.0.undamaged (covered f may.2)) leaves later
        gone_turns_here may.0 image left)

    pub segment_settles : (told now : Option Files)
        → IsRecovering first told leaves (id ∷ others) → PutsAt told now name None
        → LastsAs later name None → IsRecovering first now later others
    segment_settles None now may puts lasts = absurd may
    segment_settles (Some f) now may puts lasts =
        let h = finmap.remove f u in
        let same = segment_goes f id may.0.undamaged (covered f may.2) in
        subst (λ (o : Option Files). IsRecovering first o later others)
        (sym (subst (λ (n : List ℕ). PutsAt (Some f) now n None) is puts)) (
          folder_settles f h u None (λ n apart. gone_there f u n apart) (gone_here f u) same
              leaves later gone_turns_here may.0
              (subst (λ (n : List ℕ). LastsAs later n None) is lasts),
          same_then first f h may.1 same,
          λ other listed. still_covered f id may.0.undamaged (covered f may.2) other
              (may.2 other (later_listed id other others listed)),
        )

-- ---- what becomes of the files, whether or not they last

module _ (first : Files) (name : List ℕ) {A E : Type 0} (result : Result A E) where
  module _ (file : TableFile) (sequence : ℕ) (bytes : List ℕ)
      (is : name ≡ table_name_of file.table.0 sequence) where
    put_stands : (f : Files) → MayComeTo first (Some f) file sequence bytes
        → IsSameFolder first (finmap.insert f name bytes)
    put_stands f may =
        subst (λ (n : List ℕ). IsSameFolder first (finmap.insert f n bytes)) (sym is)
        (same_then first f (finmap.insert f (table_name_of file.table.0 sequence) bytes) may.0
        (file_comes f file sequence bytes may.0.undamaged may.1))

    pub file_stands : (told now : Option Files) → OnOk result (PutsAt told now name (Some bytes))
        → OnErr result (MayPutAt told now name (Some bytes))
        → MayComeTo first told file sequence bytes → Told now (IsSameFolder first)
    file_stands None now puts maybe may = absurd may
    file_stands (Some f) now puts maybe may =
        elim (which result (now ≡ Some f) (now ≡ Some (finmap.insert f name bytes)) puts maybe) [
          | inl same ↦ subst (λ (o : Option Files). Told o (IsSameFolder first)) (sym same) may.0
          | inr new ↦ subst (λ (o : Option Files). Told o (IsSameFolder first)) (sym new)
              (put_stands f may)
        ]

  module _ (id : ℕ) (others : List ℕ) (is : name ≡ segment_name_of 6 id) where
    gone_stands : (f : Files) → Recovers first (Some f) (id ∷ others)
        → Recovers first (Some (finmap.remove f name)) others
    gone_stands f may =
        let u = segment_name_of 6 id in
        let gone = segment_goes f id may.0.undamaged (may.1 id (first_listed id others)) in
        subst (λ (n : List ℕ). Recovers first (Some (finmap.remove f n)) others) (sym is) (
          same_then first f (finmap.remove f u) may.0 gone,
          λ other listed. still_covered f id may.0.undamaged (may.1 id (first_listed id others))
              other (may.1 other (later_listed id other others listed)),
        )

    pub segment_stands : (told now : Option Files) → OnOk result (PutsAt told now name None)
        → OnErr result (MayPutAt told now name None) → Recovers first told (id ∷ others)
        → Recovers first now others
    segment_stands None now puts maybe may = absurd may
    segment_stands (Some f) now puts maybe may =
        elim (which result (now ≡ Some f) (now ≡ Some (finmap.remove f name)) puts maybe) [
          | inl same ↦ subst (λ (o : Option Files). Recovers first o others) (sym same) (
            may.0,
            λ other listed. may.1 other (later_listed id other others listed),
          )
          | inr new ↦ subst (λ (o : Option Files). Recovers first o others) (sym new)
              (gone_stands f may)
        ]

-- the same folder, whatever is left to go
pub same_of : (first : Files) (now : Option Files) (segments : List ℕ)
    → Recovers first now segments → Told now (IsSameFolder first)
same_of first None segments is = absurd is
same_of first (Some f) segments is = is.0

-- ---- several segments go

-- the first of them is there, and the others once it is gone
pub is_there : (told : Option Files) (id : ℕ) (ids : List ℕ)
    → IfSome told (λ f. AreThere f (id ∷ ids))
    → IfSome told (λ f. IsHeld f (segment_name_of 6 id))
is_there None id ids there = tt
is_there (Some f) id ids there = there.0

pub others_there : (told now : Option Files) (id : ℕ) (ids : List ℕ)
    → IfSome told (λ f. AreThere f (id ∷ ids)) → PutsAt told now (segment_name_of 6 id) None
    → IfSome now (λ f. AreThere f ids)
others_there None now id ids there puts =
    subst (λ (o : Option Files). IfSome o (λ f. AreThere f ids)) (sym puts) tt
others_there (Some f) now id ids there puts =
    subst (λ (o : Option Files). IfSome o (λ g. AreThere g ids)) (sym puts) there.1

-- a segment that is there is found
pub found_there : (told : Option Files) (name : List ℕ) → IfSome told (λ f. IsHeld f name)
    → IsAbsent told name → ⊥
found_there None name there absent = absent
found_there (Some f) name there absent =
    let nothing : Option (List ℕ) = None in
    let clash : IsSome nothing = subst (λ (o : Option (List ℕ)). IsSome o) absent there in
    cc

-- no removal yet
pub removed_none : (before : Option (List Change)) → HaveRemoved [] before before
removed_none None = refl
removed_none (Some changes) = ap Some (sym (append-nil changes))

-- and one more
pub removed_more : (before mid now : Option (List Change)) (front : List ℕ) (id : ℕ)
    → HaveRemoved front before mid
    → now ≡ option_map (λ changes. changes ++ removal id ∷ []) mid
    → HaveRemoved (front ++ id ∷ []) before now
removed_more None mid now front id first one =
    one ∙ ap (option_map (λ (cs : List Change). cs ++ removal id ∷ [])) first
removed_more (Some changes) mid now front id first one =
    one ∙ ap (option_map (λ (cs : List Change). cs ++ removal id ∷ [])) first
    ∙ ap Some (append_assoc changes (map removal front) (removal id ∷ [])
    ∙ ap (λ (cs : List Change). changes ++ cs) (sym (map-append removal front (id ∷ []))))

-- one has gone, and then the others
pub gone_then : (told mid now : Option Files) (id : ℕ) (ids : List ℕ)
    → PutsAt told mid (segment_name_of 6 id) None → AreGone mid now ids
    → AreGone told now (id ∷ ids)
gone_then None mid now id ids puts gone =
    subst (λ (o : Option Files). AreGone o now ids) puts gone
gone_then (Some f) mid now id ids puts gone =
    subst (λ (o : Option Files). AreGone o now ids) puts gone

pub gone_none : (now : Option Files) → AreGone now now []
gone_none None = refl
gone_none (Some f) = refl
