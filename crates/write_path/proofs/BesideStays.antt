-- What a keeper has beside its log when its path is closed.
use Rattle.std.proofs.Common.{
  ◌≡◌,
  false,
  List,
  [],
  ◌∷◌,
  map,
  length,
  Option,
  Some,
  None,
  is_some,
  refl,
  sym,
  ap,
  ◌∙◌,
  subst,
  arith,
}
use Rattle.std.specs.List.{Contains}
use Rattle.std.proofs.lemmas.Bool.{false≢true}
use Rattle.std.proofs.lemmas.List.{length-map}
use Rattle.path_core.specs.Keeper.{Holding, PutFile}
use Rattle.path_rule.specs.declared.lasting.Beside.{Beside}
use Rattle.path_rule.specs.declared.lasting.Filed.{Filed}
use Rattle.path_rule.specs.declared.lasting.PutTable.{PutTable}
use Rattle.path_rule.specs.declared.view.PathSize.{PathSize}
use Rattle.path_rule.specs.Lasts.{beside_of, filed_of, none_filed, put_table}
use Rattle.write_path.specs.Closed.{StaysBeside}

-- no file where it shows none
pub none_shown : (files : List PutFile) → map put_table files ≡ [] → files ≡ []
none_shown [] is = refl
none_shown (f ∷ fs) is = absurd (let l = ap (λ (l : List PutTable). length l) is in omega arith)

-- and nothing among nothing
pub none_of : {T : Type 0} {xs : List T} → xs ≡ [] → (x : T) → Contains xs x → ⊥
none_of {T} is x h = absurd (let l = (subst (λ (l : List T). Contains l x) is h).1 in omega arith)

-- None where the other is none.
none_too : {T : Type 0} (a b : Option T) → is_some b ≡ is_some a → a ≡ None → b ≡ None
none_too None None same is = refl
none_too None (Some y) same is = absurd (false≢true (sym same))
none_too (Some x) b same is = absurd (let q : Some x ≡ None = is in cc)

-- nothing where there was nothing
void_too : {T : Type 0} (a b : List T) → length b ≡ length a → a ≡ [] → b ≡ []
void_too [] [] same is = refl
void_too [] (y ∷ b) same is = absurd (omega arith)
void_too (x ∷ a) b same is = absurd (let q = ap (λ (l : List _). length l) is in omega arith)

-- as many files
as_many : (first h : Holding) → filed_of h ≡ filed_of first → length h.files ≡ length first.files
as_many first h same = sym (length-map h.files put_table)
    ∙ (ap (λ (f : Filed). length f.files) same ∙ length-map first.files put_table)

pub stays_beside : (size : PathSize) (first h : Holding) → beside_of h ≡ beside_of first
    → filed_of h ≡ filed_of first → StaysBeside size first h
stays_beside size first h same filed = record {
  disk_is = ap (λ (b : Beside). b.disk) same;
  archives_are = ap (λ (b : Beside). b.archives) same;
  tables_are = ap (λ (b : Beside). b.tables) same;
  writers_are = ap (λ (b : Beside). b.writers) same;
  no_file = λ plain. void_too first.files h.files (as_many first h filed);
  none_refused = λ plain. none_too first.refused h.refused
      (ap (λ (f : Filed). f.refused) filed);
  none_archived = λ plain. void_too first.archived h.archived
      (ap (λ (f : Filed). length f.archived) filed);
}

-- and where it has done nothing beside its log, if it was opened for no table files
pub plain_beside : (size : PathSize) (first h : Holding) → beside_of h ≡ beside_of first
    → (size.files ≡ false → filed_of h ≡ none_filed) → StaysBeside size first h
plain_beside size first h same filed = record {
  disk_is = ap (λ (b : Beside). b.disk) same;
  archives_are = ap (λ (b : Beside). b.archives) same;
  tables_are = ap (λ (b : Beside). b.tables) same;
  writers_are = ap (λ (b : Beside). b.writers) same;
  no_file = λ plain none. none_shown h.files (ap (λ (f : Filed). f.files) (filed plain));
  none_refused = λ plain none. none_too None h.refused
      (ap (λ (f : Filed). f.refused) (filed plain)) refl;
  none_archived = λ plain none. ap (λ (f : Filed). f.archived) (filed plain);
}
