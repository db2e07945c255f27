-- What a recovery changes: files that it puts, and then segments that it removes.
use Rattle.std.proofs.Common.{
  ◌≡◌,
  ℕ,
  List,
  [],
  ◌++◌,
  map,
  take,
  length,
  Option,
  Some,
  None,
  Contains,
  refl,
  sym,
  ap,
  ◌∙◌,
  append_assoc,
  inl,
  inr,
  arith,
}
use Rattle.std.specs.Prelude.{option_map}
use Rattle.std.specs.FinMap as finmap
use Rattle.std.proofs.lemmas.List.{append-nil, map-append, take_all}
use Rattle.clog_base.proofs.Members.{nothing_there}
use Rattle.clog_disk.specs.declared.change.Change.{Change}
use Rattle.clog_disk.specs.Files.{Files}
use Rattle.clog_crash.specs.Folder.{IsHeld}
use Rattle.clog_folder.proofs.Listed.{held_of, listed_of}
use Rattle.clog_segments.specs.Coming.{HaveRemoved}
use Rattle.clog_segments.specs.Filing.{HasPut, HaveAllLive, publish}
use Rattle.clog_segments.specs.Named.{AreSegmentIds}
use Rattle.clog_segments.specs.Opened.{RecoversAll, RecoversFirst}
use Rattle.clog_segments.proofs.Recovered.{removed_none}

abbrev Changes : Type 0
Changes = Option (List Change)

abbrev Puts : Type 0
Puts = List (List ℕ × List ℕ)

-- ---- files are put

pub nothing_put : (before : Changes) → before
    ≡ option_map (λ changes. changes ++ map publish []) before
nothing_put None = refl
nothing_put (Some changes) = ap Some (sym (append-nil changes))

pub put_behind : (before : Changes) (puts more : Puts)
    → option_map (λ changes. changes ++ map publish more)
    (option_map (λ changes. changes ++ map publish puts) before)
    ≡ option_map (λ changes. changes ++ map publish (puts ++ more)) before
put_behind None puts more = refl
put_behind (Some changes) puts more =
    ap Some (append_assoc changes (map publish puts) (map publish more)
    ∙ ap (λ (l : List Change). changes ++ l) (sym (map-append publish puts more)))

pub put_none : (first : Files) (before now : Changes) → now ≡ before → HasPut first before now
put_none first before now same = record {
  puts = [];
  are = λ put there. absurd (nothing_there put there);
  ascend = λ i j d less within. absurd (omega (arith, within));
  behind = same ∙ nothing_put before;
}

-- ---- and segments removed

pub ids_held : (first : Files) (names : List (List ℕ)) → names ≡ finmap.keys first
    → (ids : List ℕ) → AreSegmentIds (Contains names) ids → AreSegmentIds (IsHeld first) ids
ids_held first names lists ids is = record {
  rows = is.rows;
  are = record {
    ordered = is.are.ordered;
    each = λ place name there.
        let here = is.are.each place name there in
        (held_of first names lists name here.0, here.1);
    every = λ place name held named.
        is.are.every place name (listed_of first names lists name held) named;
  };
  ids_are = is.ids_are;
}

-- nothing is removed where the puts are refused
pub only_puts : (first : Files) (before now : Changes) → HasPut first before now
    → RecoversFirst first before now
only_puts first before now puts = (
  [],
  inl refl,
  record {
    between = now;
    puts = puts;
    removes = removed_none now;
    each = λ id there. absurd (nothing_there id there);
  },
)

pub then_all : (first : Files) (before mid now : Changes) (ids : List ℕ)
    → AreSegmentIds (IsHeld first) ids → (puts : HasPut first before mid)
    → HaveAllLive first puts.puts → HaveRemoved ids mid now → RecoversAll first before now
then_all first before mid now ids are puts each removes = (
  ids,
  are,
  (record { between = mid; puts = puts; removes = removes; each = λ id there. each }, each),
)

pub then_some : (first : Files) (before mid now : Changes) (ids : List ℕ) (n : ℕ)
    → AreSegmentIds (IsHeld first) ids → (puts : HasPut first before mid)
    → HaveAllLive first puts.puts → HaveRemoved (take n ids) mid now
    → RecoversFirst first before now
then_some first before mid now ids n are puts each removes = (
  take n ids,
  inr (ids, are, (n, refl)),
  record { between = mid; puts = puts; removes = removes; each = λ id there. each },
)

-- all of them are the first of them
pub first_of_all : (first : Files) (before now : Changes) → RecoversAll first before now
    → RecoversFirst first before now
first_of_all first before now is = (
  is.0,
  inr (is.0, is.1, (length is.0, sym (take_all (length is.0) is.0 (omega arith)))),
  is.2.0,
)
