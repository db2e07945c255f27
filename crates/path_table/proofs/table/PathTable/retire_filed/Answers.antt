use Rattle.std.proofs.Common.{◌≡◌, ◌||◌, ◌+◌, ◌<◌, ◌≤◌, suc, false, true, Option, None, refl, sym}
use Rattle.std.proofs.Common.{ap, ◌∙◌, subst, arith}
use Rattle.std.specs.Option.{option_map, option_map_or}
use Rattle.path_core.specs.declared.seat.Issue.TheVariants.{Rest}
use Rattle.path_core.specs.declared.seat.SyncTurn.{SyncTurn}
use Rattle.path_core.specs.Keys.{after}
use Rattle.path_core.specs.Next.{has_filed}
use Rattle.path_rule.specs.declared.view.PathSize.{PathSize}
use Rattle.path_rule.specs.declared.view.View.{View}
use Rattle.path_rule.specs.Calls.{Holds}
use Rattle.path_rule.specs.Filing.{more_filed}
use Rattle.path_rule.specs.FilingTold.{SeesAll, TurnSynced, next_file}
use Rattle.path_rule.specs.HandsAfter.{with_reading}
use Rattle.path_rule.specs.Lasts.{beside_of, shows_of}
use Rattle.path_rule.proofs.moves.FiledSteps.{retires_with}
use Rattle.path_rule.proofs.seats.MayGives.{carries_on, holds_still, or_true}
use Rattle.path_rule.specs.Issued.{issued_in}
use Rattle.path_table.specs.LastEnds.{last_end_in}
use Rattle.path_table.proofs.table.PathTable.retire_filed.Goals as goal

pub store-requires : goal.store-requires
store-requires g c = let t = c.args.self.now in let m = c.args.member.now in
    let k = t.table.shared.key.size in
    let o = beside_of (g.K.Keeper.holds t.table.shared.key.first.value) in let wide = t.wide in
    let few = t.fits.few_tables in let there = c.requires.there.0 in let T = c.requires.turn in
    let F = c.requires.file in let is = c.requires.table.1 in
    let up : suc c.args.memtable ≡ c.args.memtable + 1 = omega arith in (
      c.requires.table.0,
      omega arith,
      retires_with (shows_of g.K.Keeper.holds) o k t.table.shared.table_id.slots
          m.seat.id m.seat.me m.number m.role c.args.table c.args.memtable c.args.bound.0 F.0 F.1
          (omega arith) (subst (λ (z : PathSize). c.args.table.0 < z.tables) (sym is) there)
          (ap (λ (z : PathSize). z.files) t.keyed ∙ c.requires.files)
          (subst (λ (z : PathSize). SeesAll z.seats m.seat.me.0.hands c.args.table.0
          c.args.memtable F.0) (sym t.keyed) F.2) F.3 F.4 c.requires.bound T.1.0 T.1.1 T.1.2 T.0
          T.1.3
          (subst (λ (z : PathSize). c.args.bound.0 ≤ after z.capacity T.0) (sym is) T.2) T.3
          (c.args.memtable + 1) up F.5,
    )

pub invariant_of-member : goal.invariant_of-member
invariant_of-member g c = let m = c.args.member.now in let F = c.requires.file in
    let few = c.args.self.now.fits.few_tables in let there = c.requires.there.0 in
    let l = more_filed (next_file m.seat.me.0.hands.lasting c.args.table.0 c.args.bound.0 F.1)
    m.seat.me.0.hands.lasting in
    let d = c.store.ensures.2 m.number c.args.table l m.seat.me.0.hands.pending m.role (omega arith)
    refl F.5 in record {
      role = ap (λ (v : View). v.role) d.0.0 ∙ m.role;
      counted = m.counted ∙ sym (ap (λ (v : View). issued_in v.trail) d.0.0);
      ended = m.ended ∙ sym (ap (λ (v : View). last_end_in v.trail) d.0.0);
    }

pub returns-clause-same : goal.returns-clause-same
returns-clause-same g c = let m = c.args.member.now in let F = c.requires.file in
    let few = c.args.self.now.fits.few_tables in let there = c.requires.there.0 in
    let l = more_filed (next_file m.seat.me.0.hands.lasting c.args.table.0 c.args.bound.0 F.1)
    m.seat.me.0.hands.lasting in
    let d = c.store.ensures.2 m.number c.args.table l m.seat.me.0.hands.pending m.role (omega arith)
    refl F.5 in (c.store.ensures.0, refl, d.1)

pub returns-clause-step : goal.returns-clause-step
returns-clause-step g c = let m = c.args.member.now in
    let few = c.args.self.now.fits.few_tables in let there = c.requires.there.0 in
    λ lasting pending C. let d = c.store.ensures.2 m.number c.args.table lasting pending m.role
    (omega arith) refl C in record { view = d.0.0; was = d.0.1 }

pub returns-clause-filed : goal.returns-clause-filed
returns-clause-filed g c = let m = c.args.member.now in let F = c.requires.file in
    let few = c.args.self.now.fits.few_tables in let there = c.requires.there.0 in
    let l = more_filed (next_file m.seat.me.0.hands.lasting c.args.table.0 c.args.bound.0 F.1)
    m.seat.me.0.hands.lasting in
    let d = c.store.ensures.2 m.number c.args.table l m.seat.me.0.hands.pending m.role (omega arith)
    refl F.5 in let T = c.requires.turn.1 in
    ap (λ (v : View). has_filed v.part) d.0.0
    ∙ (ap (λ (o : Option SyncTurn). option_map_or (λ (t : SyncTurn). t.filed)
    (option_map (λ (t : SyncTurn). record t { filed = t.filed || true }) o) false) T.1
    ∙ or_true T.0.filed)

pub returns-clause-turn : goal.returns-clause-turn
returns-clause-turn g c = let m = c.args.member.now in let F = c.requires.file in
    let few = c.args.self.now.fits.few_tables in let there = c.requires.there.0 in
    let l = more_filed (next_file m.seat.me.0.hands.lasting c.args.table.0 c.args.bound.0 F.1)
    m.seat.me.0.hands.lasting in
    let d = c.store.ensures.2 m.number c.args.table l m.seat.me.0.hands.pending m.role (omega arith)
    refl F.5 in
    λ key T. subst (λ (v : View). TurnSynced v.part key) (sym d.0.0) (
      record T.0 { filed = T.0.filed || true },
      ap (option_map (λ (t : SyncTurn). record t { filed = t.filed || true })) T.1,
      T.2,
      T.3,
    )

pub returns-clause-give : goal.returns-clause-give
returns-clause-give g c = let m = c.args.member.now in let F = c.requires.file in
    let few = c.args.self.now.fits.few_tables in let there = c.requires.there.0 in
    let l = more_filed (next_file m.seat.me.0.hands.lasting c.args.table.0 c.args.bound.0 F.1)
    m.seat.me.0.hands.lasting in
    let d = c.store.ensures.2 m.number c.args.table l m.seat.me.0.hands.pending m.role (omega arith)
    refl F.5 in
    λ may. subst (Holds Rest) (sym d.0.0) (holds_still (λ (t : SyncTurn).
    record t { filed = t.filed || true }) (λ t. refl) m.seat.me.0 _ refl refl may)

pub returns-clause-desk : goal.returns-clause-desk
returns-clause-desk g c = let m = c.args.member.now in let F = c.requires.file in
    let few = c.args.self.now.fits.few_tables in let there = c.requires.there.0 in
    let h = m.seat.me.0.hands in
    let l = more_filed (next_file h.lasting c.args.table.0 c.args.bound.0 F.1) h.lasting in
    let d = c.store.ensures.2 m.number c.args.table l h.pending m.role (omega arith) refl F.5 in
    carries_on (shows_of g.K.Keeper.holds) m.seat.me c.store.new.seat.me l h.pending h.progress
    (with_reading None h) (ap (λ (v : View). v.hands) d.0.0) d.1 F.5

pub returns-clause-was : goal.returns-clause-was
returns-clause-was g c = let m = c.args.member.now in
    let few = c.args.self.now.fits.few_tables in let there = c.requires.there.0 in
    let up : c.args.memtable + 1 ≡ suc c.args.memtable = omega arith in λ f F.
    let d = c.store.ensures.2 m.number c.args.table (more_filed f m.seat.me.0.hands.lasting)
    m.seat.me.0.hands.pending m.role (omega arith) refl F in d.2 f c.args.memtable up F
