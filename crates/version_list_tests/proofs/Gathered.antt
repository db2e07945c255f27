-- Rows that are gathered one after another are all the rows.
use Rattle.std.proofs.Common.{◌≡◌, List, [], ◌∷◌, ◌++◌, fold, sym, ◌∙◌, append_assoc}
use Rattle.std.proofs.lemmas.List.{append-nil}
use Rattle.version_list_tests.specs.declared.row.Row.{Row}

abbrev pub put : List Row → Row → List Row
put rows row = rows ++ row ∷ []

pub put_all : (done rows : List Row) → fold put done rows ≡ done ++ rows
put_all done [] = sym (append-nil done)
put_all done (r ∷ rows) = put_all (put done r) rows ∙ append_assoc done (r ∷ []) rows
