-- What holds of an outcome follows from what does.
use Rattle.std.proofs.Common.{Result, Ok, Err, OnOk, OnErr, IfOk}

pub on_ok : {T E : Type 0} (r : Result T E) (P Q : Type 0) → OnOk r P → (P → Q) → OnOk r Q
on_ok (Ok x) P Q holds so = so holds
on_ok (Err e) P Q holds so = holds

pub on_err : {T E : Type 0} (r : Result T E) (P Q : Type 0) → OnErr r P → (P → Q) → OnErr r Q
on_err (Ok x) P Q holds so = holds
on_err (Err e) P Q holds so = so holds

pub if_ok : {T E : Type 0} (r : Result T E) (P Q : T → Type 0) → IfOk r P
    → ((x : T) → P x → Q x) → IfOk r Q
if_ok (Ok x) P Q holds so = so x holds
if_ok (Err e) P Q holds so = holds
