use Rattle.std.proofs.Common.{refl, sym, ap, subst, ◌∙◌, [], ◌++◌, List, Err}
use Rattle.std.proofs.lemmas.Grind.{flat_map-append}
use Rattle.std.proofs.lemmas.List.{append-nil}
use Rattle.clog_folder.specs.Listing.{IsSegmentAt, segment_cmp}
use Rattle.clog_folder.specs.Segments.{Row}
use Rattle.clog_folder.proofs.Passing.{both, no_call}
use Rattle.clog_folder.proofs.Rows.{is_there_now, segment_places}
use Rattle.clog_folder.proofs.TablesRead.{part_more}
use Rattle.replay_merge.specs.Entries.{Entry, all_items, items_of}
use Rattle.replay_merge.specs.Places.{GivesPlaces}
use Rattle.replay_merge.proofs.PlacesRead.{all_given, batches_more, none_given, place_stops}
use Rattle.replay_merge.proofs.places.stream_places.Goals as goal

pub loop-place-init : goal.loop-place-init
loop-place-init g c = record {
  can_next = tt;
  is_finite = tt;
  keeps = no_call g.D.Disk.files g.D.Disk.changes g.D.Disk.leaves g.D.Disk.moment
      g.D.Disk.since g.D.Disk.read_at g.D.Disk.lasted_at
      g.D.Disk.faults c.args.disk.now;
  quiet = refl;
  parts = sym c.into_iter-place-iterator.ensures.into_iter_gives.0;
  can_put = c.requires.sink;
  given = (
    [],
    g.met.P.Sink.put_none c.args.to.now,
    none_given c.args.ignore c.greatest_id-greatest.result (g.D.Disk.files c.args.disk.now),
  );
}

pub stream_place-requires-clause-there : goal.stream_place-requires-clause-there
stream_place-requires-clause-there g c =
    let l = c.loop-place in
    is_there_now segment_cmp IsSegmentAt segment_places (g.D.Disk.files c.args.disk.now)
    (g.D.Disk.files l.disk) c.args.names.entries
    l.yielded l.place-iterator c.next.new.self c.in-Some.place c.in-Some.name c.requires.there
    l.invariant.keeps.same.files l.invariant.parts c.in-Some.ensures.steps

pub loop-place-preserved : goal.loop-place-preserved
loop-place-preserved g c =
    let l = c.loop-place in
    let gives = c.in-Ok.ensures.gives in
    let row : Row = (c.in-Some.place, c.in-Some.name) in
    record {
      can_next = tt;
      is_finite = tt;
      keeps = both g.D.Disk.files g.D.Disk.changes g.D.Disk.leaves g.D.Disk.moment
          g.D.Disk.since g.D.Disk.read_at g.D.Disk.lasted_at g.D.Disk.faults c.args.disk.now l.disk
          c.stream_place.new.disk
          l.invariant.keeps c.in-Ok.ensures.keeps;
      quiet = c.in-Ok.ensures.quiet ∙ l.invariant.quiet;
      parts = part_more c.args.names.entries l.yielded l.place-iterator c.next.new.self row
          l.invariant.parts c.in-Some.ensures.steps;
      can_put = gives.1;
      given = (
        l.invariant.given.0 ++ gives.0,
        g.met.P.Sink.put_more c.args.to.now l.to c.stream_place.new.to l.invariant.given.0 gives.0
            l.invariant.given.1 gives.2,
        batches_more c.args.ignore c.greatest_id-greatest.result (g.D.Disk.files c.args.disk.now)
            (g.D.Disk.files l.disk) l.yielded row l.invariant.given.0 gives.0
            l.invariant.keeps.same.files l.invariant.given.2 gives.3,
      );
    }

pub returns-in-Err-clause-gives : goal.returns-in-Err-clause-gives
returns-in-Err-clause-gives g c =
    let l = c.loop-place in
    let gives = c.in-Err.ensures.gives in
    let row : Row = (c.in-Some.place, c.in-Some.name) in (
      l.invariant.given.0 ++ gives.0,
      gives.1,
      g.met.P.Sink.put_more c.args.to.now l.to c.stream_place.new.to l.invariant.given.0 gives.0
          l.invariant.given.1 gives.2,
      subst (λ (es : List Entry). GivesPlaces c.args.ignore (g.D.Disk.files c.args.disk.now)
          (g.D.Disk.faults c.args.disk.now) (g.D.Disk.faults c.stream_place.new.disk)
          c.args.names.entries es (Err c.in-Err.fault))
          (sym (flat_map-append items_of l.invariant.given.0 gives.0))
          (place_stops c.args.ignore c.greatest_id-greatest.result c.args.names.entries l.yielded
          l.place-iterator c.next.new.self row (all_items l.invariant.given.0) (all_items gives.0)
          c.greatest_id-greatest.ensures l.invariant.parts c.in-Some.ensures.steps
          (g.D.Disk.files c.args.disk.now) (g.D.Disk.files l.disk)
          (g.D.Disk.faults c.args.disk.now) (g.D.Disk.faults l.disk)
          (g.D.Disk.faults c.stream_place.new.disk) c.in-Err.fault l.invariant.keeps.same.files
          l.invariant.given.2 l.invariant.keeps.later gives.3),
    )

pub returns-clause-gives : goal.returns-clause-gives
returns-clause-gives g c =
    let l = c.loop-place in (
      l.invariant.given.0,
      l.invariant.can_put,
      l.invariant.given.1,
      all_given c.args.ignore c.greatest_id-greatest.result (g.D.Disk.files c.args.disk.now)
          c.args.names.entries l.yielded (all_items l.invariant.given.0)
          c.greatest_id-greatest.ensures
          (l.invariant.parts ∙ ap (λ rest. l.yielded ++ rest) c.in-None.ensures.steps.0
          ∙ append-nil l.yielded)
          l.invariant.given.2 (g.D.Disk.faults c.args.disk.now)
          (g.D.Disk.faults l.disk) tt,
    )
