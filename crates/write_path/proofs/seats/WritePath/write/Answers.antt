use Rattle.std.proofs.Common.{ℕ, ◌/◌, ◌≤◌, List, ◌∷◌, length, refl, ap, sym, ◌∙◌, subst, arith}
use Rattle.std.specs.List.{Contains}
use Rattle.path_core.specs.declared.note.EntryNote.{EntryNote}
use Rattle.write_path.specs.Commits.{HasNoRoom}
use Rattle.write_path.proofs.Growing.{no_shorter, then_kept}
use Rattle.write_path.proofs.LeastEntry.{entry_least}
use Rattle.write_path.proofs.Rooms.{room_since}
use Rattle.write_path.proofs.seats.WritePath.write.Goals as goal

pub claim-requires-clause-size : goal.claim-requires-clause-size
claim-requires-clause-size g c =
    let P = c.requires.prepared in let least = entry_least P.2 P.3.limits in
    let size = P.3.size in let fits = P.3.fits in let is = c.size.ensures in (
      omega arith,
      subst (λ k. c.size.result ≤ k / 2) P.5 (omega arith),
    )

pub log_claimed-requires-clause-prepared : goal.log_claimed-requires-clause-prepared
log_claimed-requires-clause-prepared g c =
    let P = c.requires.prepared in let size = P.3.size in let is = c.size.ensures in
    let sum = c.in-Ok.ensures.claim.3 in (P.0, P.1, P.2, P.3, omega arith, P.4)

pub returns-in-Ok-clause-written : goal.returns-in-Ok-clause-written
returns-in-Ok-clause-written g c =
    let L = c.log_claimed.ensures.logged in let C = c.in-Ok.ensures.claim.0 in
    let A = c.append-appending.ensures.0 in let S = c.start-begun.ensures.0 in
    let before = c.args.seat.member.seat.me.0.trail in
    let begun = c.start-begun.result.member.seat.me.0.trail in
    let joined = c.append-appending.result.member.seat.me.0.trail in
    let claimed = c.in-Ok.claimed.member.seat.me.0.trail in
    let G = then_kept before claimed c.log_claimed.result.member.seat.me.0.trail
    (then_kept before joined claimed (then_kept before begun joined (S.2, S.3, S.4)
    (A.2, A.3, A.4)) (C.2, C.3, C.4)) (L.grown, L.kept, L.unswitched) in record {
      behind = λ n h. L.behind n
          (subst (λ (l : List EntryNote). Contains l n) (sym (C.1 ∙ (A.1 ∙ S.1))) h);
      tables = L.tables;
      listed = record {
        note = L.listed.note;
        list = L.listed.list ∙ ap (λ l. L.listed.note ∷ l) (C.1 ∙ (A.1 ∙ S.1));
        last = L.listed.last;
        writer = L.listed.writer ∙ (C.0.1 ∙ (A.0.1 ∙ S.0.1));
        starts = L.listed.starts;
        ends = L.listed.ends;
        tables_are = L.listed.tables_are;
        of = L.listed.of;
      };
      grown = G.0;
      kept = G.1;
      unswitched = G.2;
    }

pub returns-in-Err-clause-written : goal.returns-in-Err-clause-written
returns-in-Err-clause-written g c =
    let E = c.in-Err.ensures.claim in let A = c.append-appending in let S = c.start-begun.ensures.0
    in
    let L = c.leave.ensures in let size = c.args.self.now.table.size in
    let before = c.args.seat.member.seat.me.0.trail in
    let begun = c.start-begun.result.member.seat.me.0.trail in
    let joined = A.result.member.seat.me.0.trail in
    let refused = c.in-Err.refused.member.seat.me.0.trail in
    let grown = then_kept before begun joined (S.2, S.3, S.4)
    (A.ensures.0.2, A.ensures.0.3, A.ensures.0.4) in
    let key = c.in-Err.key.0 in let after = c.leave.result.member.seat.me.0 in
    let G = then_kept before refused after.trail (then_kept before joined refused grown
    (E.0.2, E.0.3, E.0.4)) (L.same.2, L.same.3, L.same.4) in (
      refl,
      L.same.1 ∙ (E.0.1 ∙ (A.ensures.0.1 ∙ S.1)),
      room_since size c.args.prepared.size (length before) (length joined) key after
          (no_shorter before joined grown.0)
          (subst (λ (bytes : ℕ). HasNoRoom size bytes (length joined) key after) c.size.ensures
          (L.room c.size.result (length joined) key E.3)),
      G.0,
      G.1,
      G.2,
    )

pub returns-in-Ok-clause-issued : goal.returns-in-Ok-clause-issued
returns-in-Ok-clause-issued g c = c.log_claimed.ensures.issued ∙ (c.in-Ok.ensures.claim.0.5
    ∙ (c.append-appending.ensures.0.5 ∙ c.start-begun.ensures.0.5))

pub returns-in-Err-clause-issued : goal.returns-in-Err-clause-issued
returns-in-Err-clause-issued g c = c.leave.ensures.same.5 ∙ (c.in-Err.ensures.claim.0.5
    ∙ (c.append-appending.ensures.0.5 ∙ c.start-begun.ensures.0.5))
