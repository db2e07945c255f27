-- What calls of a disk add to what a crash leaves.
use Rattle.std.proofs.Common.{
  ◌≡◌,
  ℕ,
  ◌+◌,
  ◌<◌,
  ◌≤◌,
  inl,
  inr,
  List,
  length,
  Option,
  Some,
  None,
  refl,
  sym,
  ◌∙◌,
  ap,
  subst,
  arith,
  IfSome,
  Contains,
}
use Rattle.std.specs.Prelude.{get_or}
use Rattle.std.specs.FinMap as finmap
use Rattle.std.proofs.lemmas.Option.{none-some}
use Rattle.clog_spec.specs.Names.{archive_name_of, segment_name_of}
use Rattle.clog_disk.specs.Files.{Files, IsEnd, SameTold}
use Rattle.clog_disk.specs.Images.{Elapses, IsImage, Tears, TurnsLike, TurnsTo}
use Rattle.clog_crash.specs.Counts.{IsNameOfTable}
use Rattle.clog_crash.specs.Readings.{Reading}
use Rattle.clog_crash.proofs.OneMore.{some_is}
use Rattle.clog_segments.specs.AtMost.{
  IsArchiveAmong,
  IsArchiveOf,
  AddsOnly,
  IsUpToAt,
  LeftOr,
  TablesStay,
}
use Rattle.clog_segments.specs.Beside.{StayButOne}
use Rattle.clog_segments.proofs.Lived.{at_told, told_before}

-- ---- table files stay

pub tables_same : (told now : Option Files) → now ≡ told → TablesStay told now
tables_same told now same f g at_first at_now name bytes named there =
    subst (λ (h : Files). finmap.get h name ≡ Some bytes)
    (some_is f g (sym at_first ∙ sym same ∙ at_now)) there

-- each file but one stays, and that one is not there, or no table's
pub tables_but_one : (told now : Option Files) (own : List ℕ) → StayButOne own told now
    → ((f : Files) → told ≡ Some f → (name bytes : List ℕ) → IsNameOfTable name
    → finmap.get f name ≡ Some bytes → name ≡ own → ⊥)
    → TablesStay told now
tables_but_one told now own others apart f g at_first at_now name bytes named there =
    at_told now g (λ h. (n : List ℕ) → (n ≡ own → ⊥) → finmap.get h n ≡ finmap.get f n) at_now
    (others f at_first) name (apart f at_first name bytes named there)
    ∙ there

-- the names of segments and of archives begin with other letters
pub not_of_table : (own : List ℕ) (letter : ℕ) → get_or own 0 0 ≡ letter → letter < 84
    → (name : List ℕ) → IsNameOfTable name → name ≡ own → ⊥
not_of_table own letter begins low name named same =
    let no : 84 ≡ letter =
    sym (ap (λ (l : List ℕ). get_or l 0 0) named.1.1.form)
    ∙ ap (λ (l : List ℕ). get_or l 0 0) same ∙ begins in
    omega (arith, no, low)

pub tables_but_segment : (told now : Option Files) (id : ℕ)
    → StayButOne (segment_name_of 6 id) told now → TablesStay told now
tables_but_segment told now id others =
    tables_but_one told now (segment_name_of 6 id) others (λ f is name bytes named there.
    not_of_table (segment_name_of 6 id) 67 refl (omega arith) name named)

pub tables_but_archive : (told now : Option Files) (id : ℕ)
    → StayButOne (archive_name_of id) told now → TablesStay told now
tables_but_archive told now id others =
    tables_but_one told now (archive_name_of id) others (λ f is name bytes named there.
    not_of_table (archive_name_of id) 65 refl (omega arith) name named)

pub tables_but_free : (told now : Option Files) (own : List ℕ) (f : Files) → told ≡ Some f
    → finmap.get f own ≡ None → StayButOne own told now → TablesStay told now
tables_but_free told now own f is free others =
    tables_but_one told now own others (λ h at_first name bytes named there same.
    none-some bytes (sym free ∙ ap (λ (x : Files). finmap.get x own)
    (some_is f h (sym is ∙ at_first)) ∙ ap (finmap.get h) (sym same) ∙ there))

-- ---- what a call of a disk leaves

pub torn_up_to : (told : Option Files) (old new : List ℕ → Option (List ℕ) → Type 0)
    (own : List ℕ) (n size : ℕ) → Tears told old new own n → IsEnd told own size → (f : Files)
    → told ≡ Some f → (name bytes : List ℕ) → new name (Some bytes)
    → LeftOr old (IsUpToAt own (size + n)) name bytes
torn_up_to None old new own n size tears end f at_first name bytes is =
    let no : None ≡ Some f = at_first in cc
torn_up_to (Some h) old new own n size tears end f at_first name bytes is =
    elim (tears name (Some bytes) is) [
      | inl was ↦ inl was
      | inr torn ↦
          let got = torn.1.0 in
          let same : bytes ≡ got = some_is bytes got torn.1.1 in
          let long = torn.1.2.size in
          inr (torn.0, omega (arith, ap length same, long, end))
    ]

pub turned_only : (old new : List ℕ → Option (List ℕ) → Type 0) (own : List ℕ)
    (what : Option (List ℕ)) (P : List ℕ → List ℕ → Type 0) → TurnsTo old new own what
    → ((bytes : List ℕ) → what ≡ Some bytes → P own bytes) → (name bytes : List ℕ)
    → new name (Some bytes) → LeftOr old P name bytes
turned_only old new own what P turns put name bytes is = elim (turns name (Some bytes) is) [
  | inl was ↦ inl was
  | inr now ↦ inr (subst (λ (n : List ℕ). P n bytes) (sym now.0) (put bytes (sym now.1)))
]

-- a name gets what another holds, which is an image of it
pub linked_only : (told : Option Files) (old new : List ℕ → Option (List ℕ) → Type 0)
    (from own : List ℕ) → TurnsLike told old new from own → IfSome told (IsImage old)
    → (f : Files) → told ≡ Some f → (name bytes : List ℕ) → new name (Some bytes)
    → LeftOr old (λ (n b : List ℕ). (n ≡ own) × old from (Some b)) name bytes
linked_only None old new from own turns image f at_first name bytes is =
    let no : None ≡ Some f = at_first in cc
linked_only (Some h) old new from own turns image f at_first name bytes is =
    elim (turns name (Some bytes) is) [
      | inl was ↦ inl was
      | inr now ↦ inr (
        now.0,
        subst (λ (o : Option (List ℕ)). old from o) (sym now.1) (image from),
      )
    ]

-- what was told is told
pub still_told : (told now : Option Files) (f : Files) → SameTold told now → told ≡ Some f
    → (g : Files) × (now ≡ Some g)
still_told None now f same is = let no : None ≡ Some f = is in cc
still_told (Some h) None f same is = absurd same
still_told (Some h) (Some g) f same is = (g, refl)

module _ {D : Type 0} (files : D → Option Files) (moment : D → ℕ)
    (since : D → ℕ → Files → Type 0) (leaves : D → List ℕ → Option (List ℕ) → Type 0) where
  abbrev Adding : D → D → (List ℕ → List ℕ → Type 0) → Type 0
  Adding old new P = AddsOnly files moment since leaves old new P

  -- ---- over calls of a disk

  pub adds_none : (d : D) (P : List ℕ → List ℕ → Type 0) → Adding d d P
  adds_none d P = record {
    tables = tables_same (files d) (files d) refl;
    now = λ name bytes is. inl is;
    meanwhile = λ t image le left. inl left;
  }

  -- one call
  pub adds_by : (read_at : D → ℕ → Option Reading) (lasted_at : D → ℕ → Type 0) (old new : D)
      (P : List ℕ → List ℕ → Type 0)
      → Elapses moment since leaves read_at lasted_at old new
      → TablesStay (files old) (files new)
      → ((name bytes : List ℕ) → leaves new name (Some bytes) → LeftOr (leaves old) P name bytes)
      → Adding old new P
  adds_by read_at lasted_at old new P time tables now = record {
    tables = tables;
    now = now;
    meanwhile = λ t image le left. elim (time.nothing_else t image le left) [
      | inl before ↦ inl before
      | inr here ↦ inr (λ name bytes there.
          now name bytes (subst (λ (o : Option (List ℕ)). leaves new name o) there (here name)))
    ];
  }

  -- further calls
  pub adds_then : (old mid new : D) (P : List ℕ → List ℕ → Type 0)
      → SameTold (files mid) (files new) → moment old ≤ moment mid → Adding old mid P
      → Adding mid new P → Adding old new P
  adds_then old mid new P told later first next = record {
    tables = λ f g at_first at_now name bytes named there.
        let m = told_before (files mid) (files new) g told at_now in
        next.tables m.0 g m.1 at_now name bytes named
        (first.tables f m.0 at_first m.1 name bytes named there);
    now = λ name bytes is. back name bytes (next.now name bytes is);
    meanwhile = λ t image le left.
        elim (next.meanwhile t image (omega (arith, le, later)) left) [
          | inl before ↦ first.meanwhile t image le before
          | inr there ↦ inr (λ name bytes is. back name bytes (there name bytes is))
        ];
  }
    where
      back : (name bytes : List ℕ) → LeftOr (leaves mid) P name bytes
          → LeftOr (leaves old) P name bytes
      back name bytes is = elim is [
        | inl left ↦ first.now name bytes left
        | inr own ↦ inr own
      ]

  pub adds_more : (old new : D) (P Q : List ℕ → List ℕ → Type 0)
      → ((name bytes : List ℕ) → P name bytes → Q name bytes) → Adding old new P
      → Adding old new Q
  adds_more old new P Q more adds = record {
    tables = adds.tables;
    now = λ name bytes is. wider name bytes (adds.now name bytes is);
    meanwhile = λ t image le left. elim (adds.meanwhile t image le left) [
      | inl before ↦ inl before
      | inr there ↦ inr (λ name bytes is. wider name bytes (there name bytes is))
    ];
  }
    where
      wider : (name bytes : List ℕ) → LeftOr (leaves old) P name bytes
          → LeftOr (leaves old) Q name bytes
      wider name bytes is = elim is [
        | inl left ↦ inl left
        | inr own ↦ inr (more name bytes own)
      ]

  -- one segment more gets its archive name
  pub archived_on : (first before after : D) (base : ℕ) (ordinals : List ℕ) (o : ℕ)
      → Contains ordinals o → SameTold (files first) (files before)
      → SameTold (files before) (files after) → moment first ≤ moment before
      → ((f : Files) → files first ≡ Some f
      → Adding first before (IsArchiveAmong (leaves first) base ordinals))
      → ((f : Files) → files before ≡ Some f
      → Adding before after (IsArchiveOf (leaves before) (base + o)))
      → (f : Files) → files first ≡ Some f
      → Adding first after (IsArchiveAmong (leaves first) base ordinals)
  archived_on first before after base ordinals o listed told told_now later was next f is =
      let m = still_told (files first) (files before) f told is in
      let All = IsArchiveAmong (leaves first) base ordinals in
      adds_then first before after All told_now later (was f is)
      (adds_more before after (IsArchiveOf (leaves before) (base + o)) All
      (λ name bytes own. elim ((was f is).now (segment_name_of 6 (base + o)) bytes own.1) [
        | inl left ↦ (o, listed, (own.0, left))
        | inr other ↦ absurd (apart (base + o) (base + other.0) other.2.0)
      ]) (next m.0 m.1))
    where
      apart : (id other : ℕ) → segment_name_of 6 id ≡ archive_name_of other → ⊥
      apart id other same =
          let no : 67 ≡ 65 = ap (λ (l : List ℕ). get_or l 0 0) same in omega (arith, no)
