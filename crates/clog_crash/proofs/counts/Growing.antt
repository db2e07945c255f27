-- What appends bring to a name.
use Rattle.std.proofs.Common.{
  ◌≡◌,
  ◌<◌,
  ℕ,
  Bool,
  true,
  false,
  List,
  [],
  ◌∷◌,
  ◌++◌,
  length,
  if◌then◌else◌,
  refl,
  sym,
  ◌∙◌,
  ap,
  subst,
  arith,
  append_assoc,
}
use Rattle.std.specs.Str.{bytes_eq}
use Rattle.std.proofs.lemmas.Slice.Eq.{bytes_eq-Decides}
use Rattle.clog_spec.specs.Sizes.{header_size}
use Rattle.clog_spec.specs.Names.{segment_name_of}
use Rattle.clog_scan.specs.declared.answer.End.TheVariants.{Clean}
use Rattle.clog_scan.specs.Cut.{Section}
use Rattle.clog_scan.specs.Segment.{entries_of, IsSegment}
use Rattle.clog_disk.specs.declared.change.Change.{Change}
use Rattle.clog_disk.specs.declared.change.Change.TheVariants.{
  Append as Appended,
  Publish,
  Link,
  Remove,
}
use Rattle.clog_crash.specs.Grown.{Append, HoldsGrown, appends_of, grown}
use Rattle.clog_crash.specs.Sections.{segment_bytes, IsStored}
use Rattle.clog_crash.proofs.rest.Sectioned.{stored_holds}

is_it : (name : List ℕ) → bytes_eq name name ≡ true
is_it name = (bytes_eq-Decides name name).1 refl

is_not : (other name : List ℕ) → (other ≡ name → ⊥) → (test : Bool) → bytes_eq other name ≡ test
    → test ≡ false
is_not other name apart true is = absurd (apart ((bytes_eq-Decides other name).0 is))
is_not other name apart false is = refl

-- bytes that are appended to the name stand behind what it holds
pub grown_here : (name bytes : List ℕ) (more : List Append)
    → grown ((name, bytes) ∷ more) name ≡ bytes ++ grown more name
grown_here name bytes more =
    ap (λ (b : Bool). (if b then bytes else []) ++ grown more name) (is_it name)

-- those of another name do not
pub grown_elsewhere : (other name bytes : List ℕ) (more : List Append) → (other ≡ name → ⊥)
    → grown ((other, bytes) ∷ more) name ≡ grown more name
grown_elsewhere other name bytes more apart =
    ap (λ (b : Bool). (if b then bytes else []) ++ grown more name)
    (is_not other name apart (bytes_eq other name) refl)

pub grown-append : (appends more : List Append) (name : List ℕ)
    → grown (appends ++ more) name ≡ grown appends name ++ grown more name
grown-append [] more name = refl
grown-append (a ∷ appends) more name =
    let first = if bytes_eq a.0 name then a.1 else [] in
    ap (λ (l : List ℕ). first ++ l) (grown-append appends more name)
    ∙ sym (append_assoc first (grown appends name) (grown more name))

-- ---- changes

pub appends_of-append : (changes more : List Change)
    → appends_of (changes ++ more) ≡ appends_of changes ++ appends_of more
appends_of-append [] more = refl
appends_of-append (Appended name bytes ∷ changes) more =
    ap (λ (l : List Append). (name, bytes) ∷ l) (appends_of-append changes more)
appends_of-append (Publish name bytes ∷ changes) more = appends_of-append changes more
appends_of-append (Link old new ∷ changes) more = appends_of-append changes more
appends_of-append (Remove name ∷ changes) more = appends_of-append changes more

-- ---- segments

-- the bytes of a segment with sections hold their entries
pub grown_holds : (appends : List Append) (id : ℕ) (sections : List Section)
    → IsStored id sections → 0 < length sections
    → grown appends (segment_name_of 6 id) ≡ segment_bytes id sections
    → HoldsGrown appends id (entries_of header_size sections)
grown_holds appends id [] stored some is = absurd (omega (arith, some))
grown_holds appends id (s ∷ ss) stored some is =
    let all = s ∷ ss in
    subst (λ (b : List ℕ). IsSegment b id (entries_of header_size all) (Clean (length b))) (sym is)
    (stored_holds id s ss stored)
