use Rattle.std.proofs.Common.{◌≡◌, refl, ℕ, ◌+◌, ◌*◌, ◌/◌, ◌%◌, List, ap, ◌∙◌, arith, mod-lt}
use Rattle.std.proofs.Common.{div-add-mod'}
use Rattle.op_order.specs.declared.view.View.TheVariants.{Reads}
use Rattle.op_order.specs.Parts.{read_of}
use Rattle.op_order.specs.Told as told
use Rattle.op_order.proofs.Readers.{looks_root}
use Rattle.op_order.proofs.table.OpOrder.look_root.Goals as goal

pub load-requires : goal.load-requires
load-requires g c = let t = c.args.self.now in let z = c.args.seat.now in
    let k = t.table.shared.key.places in let n = t.table.shared.table_id.slots in
    let wide = t.wide in (
      c.requires.seat.0,
      omega arith,
      looks_root g.F.Fact.fits k n z.id z.me (read_of z) (ap (λ m. m.0) c.requires.seat.1)
          c.args.group c.requires.group,
    )

pub returns-clause-step : goal.returns-clause-step
returns-clause-step g c = let z = c.args.seat.now in let n = c.load.result in
    let q = c.load.ensures.2 (read_of z) (ap (λ m. m.0) c.requires.seat.1) (n / 1024) (n % 1024)
    (mod-lt n (omega arith))
    (let e = div-add-mod' n 1024 in let x : ℕ = n % 1024 in let y : ℕ = n / 1024 in
    let f : y * 1024 + x ≡ n = e in omega arith) in (
      n,
      refl,
      (
        c.load.ensures.0,
        q.0 ∙ ap (λ (l : List (ℕ × ℕ)).
            (Reads (told.with_look n (n / 1024) (read_of z)), l)) (ap (λ m. m.1) c.requires.seat.1),
      ),
    )

pub returns-clause-later : goal.returns-clause-later
returns-clause-later g c = let z = c.args.seat.now in let n = c.load.result in
    (c.load.ensures.2 (read_of z) (ap (λ m. m.0) c.requires.seat.1) (n / 1024) (n % 1024)
    (mod-lt n (omega arith))
    (let e = div-add-mod' n 1024 in let x : ℕ = n % 1024 in let y : ℕ = n / 1024 in
    let f : y * 1024 + x ≡ n = e in omega arith)).1
