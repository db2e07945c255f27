-- Each file but one stays over a call of a disk, whatever it answers.
use Rattle.std.proofs.Common.{
  ◌≡◌,
  ℕ,
  List,
  ◌++◌,
  inl,
  inr,
  Option,
  Some,
  None,
  refl,
  false,
  Bool,
  ◌∷◌,
  ◌+◌,
  drop,
  take,
  sym,
  ◌∙◌,
  ap,
  subst,
}
use Rattle.std.specs.Prelude.{Err, Ok, OnErr, OnOk, Result, option_map}
use Rattle.std.specs.List.{Contains}
use Rattle.std.specs.FinMap as finmap
use Rattle.std.proofs.lemmas.List.{take-append-drop}
use Rattle.std.proofs.lemmas.List.Elements.{Contains-append_right}
use Rattle.clog_spec.specs.Names.{segment_name_of}
use Rattle.clog_base.proofs.Members.{here}
use Rattle.clog_disk.specs.Files.{
  AppendsTo,
  Files,
  MayAppend,
  MayPutAt,
  PutsAt,
  Told,
  bytes_at,
  with_at,
}
use Rattle.clog_disk.proofs.Named.{put_there}
use Rattle.clog_disk.specs.Files.{SameTold}
use Rattle.clog_disk.specs.Images.{Lasts, TurnsLike, TurnsTo}
use Rattle.clog_segments.specs.Beside.{ImagesButOne, StayButOne, StayButSegments}
use Rattle.clog_segments.specs.Discards.{
  all_gone_at,
  first_gone_at,
  named_at,
  next_named_at,
}
use Rattle.clog_segments.proofs.OtherFiles.{put_else}

-- these files are told
abbrev StayIn : List ℕ → Files → Option Files → Type 0
StayIn own f now =
    Told now (λ g. (name : List ℕ) → (name ≡ own → ⊥) → finmap.get g name ≡ finmap.get f name)

now_as : (own : List ℕ) (f g : Files) (now : Option Files) → now ≡ Some g
    → ((name : List ℕ) → (name ≡ own → ⊥) → finmap.get g name ≡ finmap.get f name)
    → StayIn own f now
now_as own f g now is same = subst (StayIn own f) (sym is) same

-- nothing has changed
pub stay_same : (own : List ℕ) (told now : Option Files) → now ≡ told → StayButOne own told now
stay_same own told now same f is = now_as own f f now (same ∙ is) (λ name apart. refl)

-- ---- one segment after another

pub stay_yet : (ids : List ℕ) (told : Option Files) → StayButSegments ids told told
stay_yet ids told f is =
    subst (λ (o : Option Files). Told o (λ g. (name : List ℕ)
    → ((id : ℕ) → Contains ids id → name ≡ segment_name_of 6 id → ⊥)
    → finmap.get g name ≡ finmap.get f name)) (sym is) (λ name apart. refl)

stays_further : (ids : List ℕ) (id : ℕ) (f m : Files) (now : Option Files) → Contains ids id
    → ((name : List ℕ) → ((o : ℕ) → Contains ids o → name ≡ segment_name_of 6 o → ⊥)
    → finmap.get m name ≡ finmap.get f name)
    → StayIn (segment_name_of 6 id) m now
    → Told now (λ g. (name : List ℕ)
    → ((o : ℕ) → Contains ids o → name ≡ segment_name_of 6 o → ⊥)
    → finmap.get g name ≡ finmap.get f name)
stays_further ids id f m None there before now = absurd now
stays_further ids id f m (Some g) there before now =
    λ name apart. now name (apart id there) ∙ before name apart

pub stay_more : (ids : List ℕ) (told mid now : Option Files) (id : ℕ) → Contains ids id
    → StayButSegments ids told mid → StayButOne (segment_name_of 6 id) mid now
    → StayButSegments ids told now
stay_more ids told None now id there before more f is = absurd (before f is)
stay_more ids told (Some m) now id there before more f is =
    stays_further ids id f m now there (before f is) (more m refl)

-- ---- bytes come behind those of the file

appended : (own bytes : List ℕ) (told now : Option Files) → AppendsTo told now own bytes
    → StayButOne own told now
appended own bytes told now appends f is =
    now_as own f (finmap.insert f own (bytes_at f own ++ bytes)) now
    (subst (λ (o : Option Files). AppendsTo o now own bytes) is appends)
    (λ name apart. put_there f own (bytes_at f own ++ bytes) name apart)

perhaps_appended : (own : List ℕ) (n : ℕ) (told now : Option Files) → MayAppend told now own n
    → StayButOne own told now
perhaps_appended own n told now may f is =
    elim (subst (λ (o : Option Files). MayAppend o now own n) is may) [
      | inl same ↦ now_as own f f now same (λ name apart. refl)
      | inr some ↦ now_as own f (finmap.insert f own (bytes_at f own ++ some.0)) now some.2
          (λ name apart. put_there f own (bytes_at f own ++ some.0) name apart)
    ]

pub stay_appended : {T E : Type 0} (own bytes : List ℕ) (n : ℕ) (told now : Option Files)
    (r : Result T E) → OnOk r (AppendsTo told now own bytes)
    → OnErr r (MayAppend told now own n) → StayButOne own told now
stay_appended own bytes n told now (Ok done) appends may = appended own bytes told now appends
stay_appended own bytes n told now (Err fault) appends may =
    perhaps_appended own n told now may

-- ---- a file comes or goes

put_at : (own : List ℕ) (what : Option (List ℕ)) (told now : Option Files)
    → PutsAt told now own what → StayButOne own told now
put_at own what told now puts f is =
    now_as own f (with_at f own what) now
    (subst (λ (o : Option Files). PutsAt o now own what) is puts) (put_else f own what)

perhaps_put : (own : List ℕ) (what : Option (List ℕ)) (told now : Option Files)
    → MayPutAt told now own what → StayButOne own told now
perhaps_put own what told now may f is =
    elim (subst (λ (o : Option Files). MayPutAt o now own what) is may) [
      | inl same ↦ now_as own f f now same (λ name apart. refl)
      | inr puts ↦ now_as own f (with_at f own what) now puts (put_else f own what)
    ]

pub stay_put : {T E : Type 0} (own : List ℕ) (what : Option (List ℕ)) (told now : Option Files)
    (r : Result T E) → OnOk r (PutsAt told now own what)
    → OnErr r (MayPutAt told now own what) → StayButOne own told now
stay_put own what told now (Ok done) puts may = put_at own what told now puts
stay_put own what told now (Err fault) puts may = perhaps_put own what told now may

-- ---- segments that go

-- no archive name was given
pub unnamed : (id : ℕ) (told : Option Files) → told ≡ option_map (named_at false id) told
unnamed id None = refl
unnamed id (Some f) = refl

-- the first have gone, and the next one has perhaps its archive name
pub next_named : (archives named : Bool) (base n o : ℕ) (os rest : List ℕ)
    (told mid : Option Files) → drop n os ≡ o ∷ rest
    → mid ≡ option_map (all_gone_at archives base (take n os)) told
    → option_map (named_at named (base + o)) mid
    ≡ option_map (first_gone_at archives base os n named) told
next_named archives named base n o os rest None mid split gone =
    ap (option_map (named_at named (base + o))) gone
next_named archives named base n o os rest (Some f) mid split gone =
    ap (option_map (named_at named (base + o))) gone
    ∙ ap (λ (l : List ℕ). Some (next_named_at named base l
    (all_gone_at archives base (take n os) f))) (sym split)

pub in_all : (n : ℕ) (xs : List ℕ) (o : ℕ) (rest : List ℕ) → drop n xs ≡ o ∷ rest → Contains xs o
in_all n xs o rest split =
    subst (λ (l : List ℕ). Contains l o) (take-append-drop n xs)
    (Contains-append_right (take n xs) (drop n xs) o
    (subst (λ (l : List ℕ). Contains l o) (sym split) (here o rest)))

-- ---- what a crash may leave

pub turned : (own : List ℕ) (what : Option (List ℕ))
    (old new : List ℕ → Option (List ℕ) → Type 0) → TurnsTo old new own what
    → ImagesButOne own old new
turned own what old new turns name left apart is = elim (turns name left is) [
  | inl was ↦ was
  | inr own ↦ absurd (apart own.0)
]

pub linked : (told : Option Files) (old new : List ℕ → Option (List ℕ) → Type 0)
    (from to : List ℕ) → TurnsLike told old new from to → ImagesButOne to old new
linked None old new from to turns = λ name left apart is. elim (turns name left is) [
  | inl was ↦ was
  | inr own ↦ absurd (apart own)
]
linked (Some f) old new from to turns = turned to (finmap.get f from) old new turns

-- ---- what lasts under a name

-- neither the file nor what a crash may leave of it has changed
pub lasts_still : (name : List ℕ) (told now : Option Files)
    (old new : List ℕ → Option (List ℕ) → Type 0) → SameTold told now
    → ((f : Files) → told ≡ Some f → Told now (λ g. finmap.get g name ≡ finmap.get f name))
    → ((left : Option (List ℕ)) → new name left → old name left) → Lasts told old name
    → Lasts now new name
lasts_still name None now old new same at fewer was =
    subst (λ (o : Option Files). Lasts o new name) (sym same) tt
lasts_still name (Some f) None old new same at fewer was = absurd same
lasts_still name (Some f) (Some g) old new same at fewer was =
    λ left is. was left (fewer left is) ∙ sym (at f refl)

-- the files are the same
pub lasts_same : (name : List ℕ) (told now : Option Files)
    (old new : List ℕ → Option (List ℕ) → Type 0) → now ≡ told
    → ((left : Option (List ℕ)) → new name left → old name left) → Lasts told old name
    → Lasts now new name
lasts_same name None now old new same fewer was =
    subst (λ (o : Option Files). Lasts o new name) (sym same) tt
lasts_same name (Some f) now old new same fewer was =
    subst (λ (o : Option Files). Lasts o new name) (sym same) (λ left is. was left (fewer left is))

at_name : (name own : List ℕ) (f : Files) (now : Option Files) → (name ≡ own → ⊥)
    → StayIn own f now → Told now (λ g. finmap.get g name ≡ finmap.get f name)
at_name name own f None apart same = same
at_name name own f (Some g) apart same = same name apart

-- another file has changed
pub lasts_beside : (name own : List ℕ) (told now : Option Files)
    (old new : List ℕ → Option (List ℕ) → Type 0) → SameTold told now → StayButOne own told now
    → ImagesButOne own old new → (name ≡ own → ⊥) → Lasts told old name → Lasts now new name
lasts_beside name own told now old new same others elsewhere apart was =
    lasts_still name told now old new same (λ f is. at_name name own f now apart (others f is))
    (λ left is. elsewhere name left apart is) was
