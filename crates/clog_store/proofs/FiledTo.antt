-- How far table files reach, file by file.
use Rattle.std.proofs.Common.{
  ◌≡◌,
  ℕ,
  ◌+◌,
  ◌<◌,
  ◌∷◌,
  [],
  ◌++◌,
  inl,
  inr,
  Bool,
  List,
  get_or,
  set,
  if◌then◌else◌,
  length,
  take,
  sym,
  ◌∙◌,
  ap,
}
use Rattle.std.specs.Prelude.{◌==◌}
use Rattle.std.proofs.lemmas.Bool.{cases_eq, eq-eqb, ne_eqb}
use Rattle.std.proofs.lemmas.List.{get_or-set_other, get_or-set_same, take_more}
use Rattle.clog_base.specs.declared.position.Key.{Key}
use Rattle.path_core.specs.Keeper.{PutFile, upper_from}
use Rattle.clog_segments.specs.declared.publishing.Published.{Published}
use Rattle.clog_due.specs.Dropping.{IsPublished}
use Rattle.clog_store.proofs.FolderPuts.{upper_push}

-- with one more of a list of files
pub upper_more : (files : List PutFile) (i : ℕ) (f : PutFile) → i < length files
    → f ≡ get_or files i f → (p : Published) → IsPublished f p → (t : ℕ)
    → (if p.table.0 == t then p.upper.0 else upper_from t 0 (take i files))
    ≡ upper_from t 0 (take (i + 1) files)
upper_more files i f inside is p same t =
    let before = upper_from t 0 (take i files) in
    let more : take i files ++ f ∷ [] ≡ take (i + 1) files =
    ap (λ (g : PutFile). take i files ++ g ∷ []) is ∙ sym (take_more files i f inside) in
    ap (λ (k : ℕ). if k == t then p.upper.0 else before) same.table
    ∙ ap (λ (k : ℕ). if f.table == t then k else before) same.upper
    ∙ sym (upper_push t 0 (take i files) f) ∙ ap (upper_from t 0) more

-- with the key of one table put
pub key_put : (keys : List Key) (place number : ℕ) (key : Key) → place ≡ number
    → place < length keys → (t : ℕ)
    → (get_or (set keys place key) t (record { 0 = 0 })).0
    ≡ (if number == t then key.0 else (get_or keys t (record { 0 = 0 })).0)
key_put keys place number key is inside t =
    let none : Key = record { 0 = 0 } in
    let old = (get_or keys t none).0 in
    elim (cases_eq t place) [
      | inl same ↦
          ap (λ (k : ℕ). (get_or (set keys place key) k none).0) same
          ∙ ap (λ (k : Key). k.0) (get_or-set_same keys place key none inside)
          ∙ sym (ap (λ (b : Bool). if b then key.0 else old)
          (eq-eqb number t (sym is ∙ sym same)))
      | inr apart ↦
          ap (λ (k : Key). k.0) (get_or-set_other keys place t key none apart)
          ∙ sym (ap (λ (b : Bool). if b then key.0 else old)
          (ne_eqb number t (λ same. apart (sym (is ∙ same)))))
    ]
