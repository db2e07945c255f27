-- An opening's changes, and what it makes of a folder.
use Rattle.std.proofs.Common.{
  ◌≡◌,
  ℕ,
  inl,
  inr,
  List,
  ◌++◌,
  map,
  Option,
  Some,
  refl,
  ◌∙◌,
  ap,
  subst,
  append_assoc,
}
use Rattle.std.specs.Prelude.{Contains, option_map}
use Rattle.std.proofs.lemmas.List.Elements.{Contains-append_cases}
use Rattle.clog_base.proofs.Members.{from_map}
use Rattle.clog_disk.specs.declared.change.Change.{Change}
use Rattle.clog_disk.specs.Files.{Files}
use Rattle.clog_crash.specs.Folder.{HasSegmentOf, IsHeld}
use Rattle.clog_segments.specs.Coming.{removal}
use Rattle.clog_segments.specs.Filing.{IsRecoveryPut, publish}
use Rattle.clog_segments.specs.Named.{AreSegmentIds, id_of}
use Rattle.clog_segments.specs.Opened.{IsOpened, RecoversAll}
use Rattle.clog_applied.specs.Opening.{IsOpening, IsRecoveryChange, SaysRecovered}

says : (first : Files) (name bytes : List ℕ) → IsRecoveryPut first name bytes
    → SaysRecovered first name bytes
says first name bytes put = record {
  file = put.file;
  says = record { sequence = put.sequence; named = put.named; spelled = put.spelled };
  recovers = put.is_recovery_file;
}

had : (first : Files) (ids : List ℕ) → AreSegmentIds (IsHeld first) ids → (id : ℕ)
    → Contains ids id → HasSegmentOf first id
had first ids are id h =
    let row = from_map id_of are.rows id
    (subst (λ (l : List ℕ). Contains l id) are.ids_are h) in
    let each = are.are.each row.0.0 row.0.1 row.1 in
    subst (HasSegmentOf first) row.2 (row.0.1, each.0, (row.0.0.1, each.1))

pub recovery_changes : (first : Files) (made : List Change) (now : Option (List Change))
    → RecoversAll first (Some made) now
    → (recovery : List Change) × (now ≡ Some (made ++ recovery))
    × ((c : Change) → Contains recovery c → IsRecoveryChange first c)
recovery_changes first made now all =
    let ids = all.0 in
    let are = all.1 in
    let done = all.2.0 in
    let puts = map publish done.puts.puts in
    let removes = map removal ids in
    let now_is : now ≡ Some ((made ++ puts) ++ removes) =
    done.removes ∙ ap (option_map (λ (c : List Change). c ++ removes)) done.puts.behind in (
      puts ++ removes,
      now_is ∙ ap Some (append_assoc made puts removes),
      λ c h. elim (Contains-append_cases puts removes c h) [
        | inl put ↦
            let found = from_map publish done.puts.puts c put in
            subst (IsRecoveryChange first) found.2
            (says first found.0.0 found.0.1 (done.puts.are found.0 found.1))
        | inr remove ↦
            let found = from_map removal ids c remove in
            subst (IsRecoveryChange first) found.2
            (found.0, refl, had first ids are found.0 found.1)
      ],
    )

pub is_opening : (first now : Files) (moment base : ℕ) (recovery : List Change)
    → IsOpened first moment base now
    → ((c : Change) → Contains recovery c → IsRecoveryChange first c)
    → IsOpening first now recovery base
is_opening first now moment base recovery o changes = record {
  same = o.recovered.same;
  no_segment = o.recovered.no_segment;
  others = o.recovered.others;
  came = λ name bytes there absent.
      says first name bytes (o.recovered.came name bytes there absent);
  base_above = o.is_base.above;
  changes = changes;
}
