-- Which names last over a call of a disk, and over a call of a log of sections.
use Rattle.std.proofs.Common.{
  ◌≡◌,
  ◌≢◌,
  ℕ,
  ◌<◌,
  inl,
  inr,
  List,
  length,
  Option,
  Some,
  None,
  refl,
  true,
  sym,
  ◌∙◌,
  ap,
  subst,
  arith,
}
use Rattle.std.specs.Prelude.{Err, Ok, OnErr, OnOk, Result}
use Rattle.std.proofs.lemmas.Bool.{true≢false}
use Rattle.std.specs.FinMap as finmap
use Rattle.clog_spec.specs.Names.{segment_name_of}
use Rattle.clog_disk.specs.declared.disk.DiskFault.{DiskFault}
use Rattle.clog_disk.specs.declared.disk.DiskFault.TheVariants.{Failed}
use Rattle.clog_disk.specs.Files.{Files, PutsAt, SameTold, at_name, with_at}
use Rattle.clog_disk.specs.Images.{Lasts, LastsAs, LastsLike, Tears, Unchanged, Within}
use Rattle.clog_disk.proofs.Named.{gone_here, put_here, same_or_other}
use Rattle.clog_crash.proofs.OneMore.{some_is}
use Rattle.clog_scan.specs.Cut.{Section}
use Rattle.clog_segments.specs.Beside.{ImagesButOne, StayButOne}
use Rattle.clog_segments.specs.Life.{State}
use Rattle.clog_segments.specs.NamesLast.{EachLasts, LastsOrStays, NamesGoOn, NamesLast, StaysAt}
use Rattle.clog_segments.proofs.Lived.{at_told, same_told, told_before}
use Rattle.clog_segments.proofs.OtherFiles.{put_else}

-- ---- at one name

abbrev Leaves : Type 1
Leaves = List ℕ → Option (List ℕ) → Type 0

stays_self : (f : Files) (old new : Leaves) (name : List ℕ)
    → ((left : Option (List ℕ)) → new name left → old name left) → StaysAt f f old new name
stays_self f old new name fewer = record { reads = refl; fewer = fewer }

stays_then : (f m g : Files) (old mid new : Leaves) (name : List ℕ) → StaysAt f m old mid name
    → StaysAt m g mid new name → StaysAt f g old new name
stays_then f m g old mid new name first next = record {
  reads = next.reads ∙ first.reads;
  fewer = λ left is. first.fewer left (next.fewer left is);
}

lasts_then : (m g : Files) (mid new : Leaves) (name : List ℕ)
    → LastsAs mid name (finmap.get m name) → StaysAt m g mid new name
    → LastsAs new name (finmap.get g name)
lasts_then m g mid new name lasts next left is =
    lasts left (next.fewer left is) ∙ sym next.reads

last_or_stay_then : (f m g : Files) (old mid new : Leaves) (name : List ℕ)
    → LastsOrStays f m old mid name → LastsOrStays m g mid new name
    → LastsOrStays f g old new name
last_or_stay_then f m g old mid new name first next = elim next [
  | inl lasts ↦ inl lasts
  | inr stays ↦ elim first [
    | inl lasted ↦ inl (lasts_then m g mid new name lasted stays)
    | inr stayed ↦ inr (stays_then f m g old mid new name stayed stays)
  ]
]

-- ---- at each name, over calls of a disk

-- the files are the same
pub each_same : (told now : Option Files) (old new : Leaves) → now ≡ told → Within old new
    → EachLasts told old now new
each_same told now old new same within f g at_first at_now name =
    inr (subst (λ (x : Files). StaysAt f x old new name)
    (some_is f g (sym at_first ∙ sym same ∙ at_now)) (stays_self f old new name (within name)))

pub each_then : (told mid now : Option Files) (old between new : Leaves) → SameTold mid now
    → EachLasts told old mid between → EachLasts mid between now new → EachLasts told old now new
each_then told mid now old between new same first next f g at_first at_now name =
    let m = told_before mid now g same at_now in
    last_or_stay_then f m.0 g old between new name (first f m.0 at_first m.1 name)
    (next m.0 g m.1 at_now name)

-- the file at a name is put, or goes
put_reads : (f : Files) (own : List ℕ) (what : Option (List ℕ))
    → finmap.get (with_at f own what) own ≡ what
put_reads f own None = gone_here f own
put_reads f own (Some bytes) = put_here f own bytes

each_put : (told now : Option Files) (old new : Leaves) (own : List ℕ) (what : Option (List ℕ))
    → PutsAt told now own what → LastsAs new own what → ImagesButOne own old new
    → EachLasts told old now new
each_put None now old new own what puts lasts elsewhere f g at_first at_now name =
    let no : None ≡ Some f = at_first in cc
each_put (Some h) now old new own what puts lasts elsewhere f g at_first at_now name =
    let is : with_at f own what ≡ g =
    ap (λ (x : Files). with_at x own what) (some_is f h (sym at_first))
    ∙ some_is (with_at h own what) g (sym puts ∙ at_now) in
    subst (λ (x : Files). LastsOrStays f x old new name) is
    (elim (same_or_other name own) [
      | inl same ↦ subst (λ (n : List ℕ). LastsOrStays f (with_at f own what) old new n)
          (sym same) (inl (λ left there. lasts left there ∙ sym (put_reads f own what)))
      | inr apart ↦ inr (record {
        reads = put_else f own what name apart;
        fewer = λ left there. elsewhere name left apart there;
      })
    ])

-- whether or not it was refused, where the disk has not failed
pub each_by : {T : Type 0} (told now : Option Files) (old new : Leaves) (own : List ℕ)
    (what : Option (List ℕ)) (r : Result T DiskFault) → r ≢ Err Failed
    → OnOk r (PutsAt told now own what) → OnOk r (LastsAs new own what)
    → ImagesButOne own old new → (r ≢ Err Failed → OnErr r (Unchanged told now old new))
    → EachLasts told old now new
each_by told now old new own what (Ok done) other puts lasts elsewhere refused =
    each_put told now old new own what puts lasts elsewhere
each_by told now old new own what (Err fault) other puts lasts elsewhere refused =
    let un = refused other in each_same told now old new un.files un.images.fewer

-- a name gets what another holds
pub each_linked : {T : Type 0} (told now : Option Files) (old new : Leaves) (from own : List ℕ)
    (r : Result T DiskFault) → r ≢ Err Failed → OnOk r (PutsAt told now own (at_name told from))
    → OnOk r (LastsLike told new from own) → ImagesButOne own old new
    → (r ≢ Err Failed → OnErr r (Unchanged told now old new)) → EachLasts told old now new
each_linked None now old new from own r other puts lasts elsewhere refused f g at_first at_now
    name = let no : None ≡ Some f = at_first in cc
each_linked (Some h) now old new from own r other puts lasts elsewhere refused f g at_first
    at_now name =
    each_by (Some h) now old new own (finmap.get h from) r other puts lasts elsewhere refused f g
    at_first at_now name

-- where bytes come behind those of a file, no other image has changed
pub torn_elsewhere : (told : Option Files) (old new : Leaves) (own : List ℕ) (n : ℕ)
    → Tears told old new own n → (f : Files) → told ≡ Some f → ImagesButOne own old new
torn_elsewhere None old new own n tears f at_first name left apart is =
    let no : None ≡ Some f = at_first in cc
torn_elsewhere (Some h) old new own n tears f at_first name left apart is =
    elim (tears name left is) [
      | inl was ↦ was
      | inr torn ↦ absurd (apart torn.0)
    ]

-- ---- over calls of a log

module _ {D : Type 0} (files : D → Option Files)
    (leaves : D → List ℕ → Option (List ℕ) → Type 0) where
  abbrev Going : State D → State D → Type 0
  Going a b = NamesGoOn files leaves a b

  pub names_still : (a : State D) → Going a a
  names_still a runs g at_now = record {
    ran = runs;
    old = g;
    told = at_now;
    each = λ name shut.
        inr (shut, stays_self g (leaves a.disk) (leaves a.disk) name (λ left is. is));
  }

  pub names_stopped : (a b : State D) → b.is_stopped ≡ true → Going a b
  names_stopped a b stopped runs = absurd (true≢false (sym stopped ∙ runs))

  pub names_then : (a b c : State D) → Going a b → Going b c → Going a c
  names_then a b c first next runs g at_now =
      let N = next runs g at_now in
      let F = first N.ran N.old N.told in
      record {
        ran = F.ran;
        old = F.old;
        told = F.told;
        each = λ name shut. elim (N.each name shut) [
          | inl lasts ↦ inl lasts
          | inr stays ↦ elim (F.each name stays.0) [
            | inl lasted ↦ inl (lasts_then N.old g (leaves b.disk) (leaves c.disk) name lasted
                stays.1)
            | inr stayed ↦ inr (
              stayed.0,
              stays_then F.old N.old g (leaves a.disk) (leaves b.disk) (leaves c.disk) name
                  stayed.1 stays.1,
            )
          ]
        ];
      }

  -- the disk is called beside the log
  pub names_beside : (a : State D) (d : D) (ss : List Section) → ss ≡ a.sections
      → SameTold (files a.disk) (files d) → EachLasts (files a.disk) (leaves a.disk) (files d)
      (leaves d) → Going a (record a { disk = d; sections = ss })
  names_beside a d ss same told lasts runs g at_now =
      let f = told_before (files a.disk) (files d) g told at_now in
      record {
        ran = runs;
        old = f.0;
        told = f.1;
        each = λ name shut. elim (lasts f.0 g f.1 at_now name) [
          | inl there ↦ inl there
          | inr stays ↦ inr (
            λ open_. shut (
              open_.0,
              subst (λ (l : List Section). a.synced < length l) (sym same)
                  open_.1,
            ),
            stays,
          )
        ];
      }

  -- it is only asked
  pub names_asked : (a : State D) (d : D)
      → Unchanged (files a.disk) (files d) (leaves a.disk) (leaves d)
      → Going a (record a { disk = d })
  names_asked a d same =
      names_beside a d a.sections refl (same_told (files a.disk) (files d) same.files)
      (each_same (files a.disk) (files d) (leaves a.disk) (leaves d) same.files
      same.images.fewer)

  -- a section is kept
  pub names_kept : (a : State D) (d : D) (ss : List Section) → a.synced < length ss
      → SameTold (files a.disk) (files d)
      → StayButOne (segment_name_of 6 a.id) (files a.disk) (files d)
      → ((f : Files) → files a.disk ≡ Some f
      → ImagesButOne (segment_name_of 6 a.id) (leaves a.disk) (leaves d))
      → Going a (record a { disk = d; sections = ss })
  names_kept a d ss more told others elsewhere runs g at_now =
      let f = told_before (files a.disk) (files d) g told at_now in
      record {
        ran = runs;
        old = f.0;
        told = f.1;
        each = λ name shut.
            let apart : name ≡ segment_name_of 6 a.id → ⊥ = λ own. shut (own, more) in
            inr (
              λ open_. apart open_.0,
              record {
                reads = at_told (files d) g _ at_now (others f.0 f.1) name apart;
                fewer = λ left is. elsewhere f.0 f.1 name left apart is;
              },
            );
      }

  -- all sections are made to last
  pub names_settled : (a : State D) (d : D) (n : ℕ) → files d ≡ files a.disk
      → Within (leaves a.disk) (leaves d)
      → Lasts (files a.disk) (leaves d) (segment_name_of 6 a.id)
      → Going a (record a { disk = d; synced = n })
  names_settled a d n same within here runs g at_now =
      let before : files a.disk ≡ Some g = sym same ∙ at_now in
      record {
        ran = runs;
        old = g;
        told = before;
        each = λ name shut. elim (same_or_other name (segment_name_of 6 a.id)) [
          | inl own ↦ inl (subst (λ (k : List ℕ). LastsAs (leaves d) k (finmap.get g k)) (sym own)
              (subst (λ (o : Option Files). Lasts o (leaves d) (segment_name_of 6 a.id)) before
              here))
          | inr apart ↦ inr (
            λ open_. apart open_.0,
            stays_self g (leaves a.disk) (leaves d) name (within name),
          )
        ];
      }

  -- it goes on in a later segment
  pub names_rolled : (a b : State D) → b.disk ≡ a.disk → b.is_stopped ≡ a.is_stopped
      → a.synced ≡ length a.sections → Going a b
  names_rolled a b same stops all runs g at_now = record {
    ran = sym stops ∙ runs;
    old = g;
    told = ap files (sym same) ∙ at_now;
    each = λ name shut.
        inr (
          λ open_. omega (arith, all, open_.1),
          subst (λ (d : D). StaysAt g g (leaves a.disk) (leaves d) name) (sym same)
              (stays_self g (leaves a.disk) (leaves a.disk) name (λ left is. is)),
        );
  }

  pub names_from : {a b now : State D} → a ≡ b → Going a now → Going b now
  names_from {now = now} same go = subst (λ (s : State D). Going s now) same go

  -- ---- since the opening of a store

  pub names_at_first : (a : State D) → NamesLast files leaves a.disk a
  names_at_first a runs f g at_first at_now name shut =
      inr (subst (λ (x : Files). StaysAt f x (leaves a.disk) (leaves a.disk) name)
      (some_is f g (sym at_first ∙ at_now))
      (stays_self f (leaves a.disk) (leaves a.disk) name (λ left is. is)))

  pub names_on : (first : D) (a b : State D) → NamesLast files leaves first a → Going a b
      → NamesLast files leaves first b
  names_on first a b before go runs f g at_first at_now name shut =
      let G = go runs g at_now in
      elim (G.each name shut) [
        | inl lasts ↦ inl lasts
        | inr stays ↦ last_or_stay_then f G.old g (leaves first) (leaves a.disk) (leaves b.disk)
            name (before G.ran f G.old at_first G.told name stays.0) (inr stays.1)
      ]
