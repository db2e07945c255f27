use Rattle.std.proofs.Common.{◌≡◌, Result, Ok, Err, IfOk, List, [], ap, subst, ◌∙◌}
use Rattle.version_list_tests.proofs.Gathered.{put_all}
use Rattle.version_list_tests.specs.Values.{value_of}
use Rattle.version_list_tests.proofs.finding.read_key.Goals as goal

if_ok : {T E : Type 0} (r : Result T E) (P Q : T → Type 0) → IfOk r P
    → ((x : T) → P x → Q x) → IfOk r Q
if_ok (Ok x) P Q holds so = so x holds
if_ok (Err e) P Q holds so = holds

pub returns-clause-value : goal.returns-clause-value
returns-clause-value g c =
    let seen = c.read.new.seat in
    if_ok c.read.result _ (λ v. v ≡ value_of c.args.key seen) c.read.ensures.answer (λ x a.
    let all : a.0.list.items ≡ seen = a.1 ∙ put_all [] seen in
    subst (λ (rows : List _). x ≡ value_of c.args.key rows)
    (ap (λ w. w.list.items) a.2.shows ∙ all) a.2.says.met)
