-- The disk stays as it is over several calls, and its faults are told.
use Rattle.std.proofs.Common.{
  ◌≡◌,
  ℕ,
  ◌≤◌,
  List,
  Option,
  Result,
  Ok,
  Err,
  refl,
  ◌∙◌,
  inl,
  inr,
  arith,
}
use Rattle.clog_disk.specs.declared.change.Change.{Change}
use Rattle.clog_disk.specs.Files.{Files}
use Rattle.clog_disk.specs.Images.{Elapses, Unchanged}
use Rattle.clog_folder.specs.declared.fault.OpenFault.{OpenFault}
use Rattle.clog_folder.specs.Passing.{IsUntouched, TellsEach, TellsFault}

module _ {D : Type 0} (files : D → Option Files) (changes : D → Option (List Change))
    (leaves : D → List ℕ → Option (List ℕ) → Type 0) (moment : D → ℕ)
    (since : D → ℕ → Files → Type 0) (read_at : D → ℕ → Option (List ℕ → List ℕ))
    (lasted_at : D → ℕ → Type 0)
    (faults : D → ℕ) where
  abbrev Stays : D → D → Type 0
  Stays old new = IsUntouched files changes leaves moment since read_at lasted_at faults old new

  -- no call
  pub no_call : (d : D) → Stays d d
  no_call d = record {
    same = record {
      files = refl;
      images = record { fewer = λ name l has. has; more = λ name l has. has };
    };
    changes_are = refl;
    time = record {
      later = record {
        no_sooner = omega arith;
        remembers = λ t before. refl;
        lasted_then = λ t before. (λ has. has, λ has. has);
      };
      nothing_else = λ t image before has. inl has;
      keeps = λ t image before has. has;
    };
    later = omega arith;
  }

  -- one call that changes nothing
  pub one_call : (a b : D) → Unchanged (files a) (files b) (leaves a) (leaves b)
      → changes b ≡ changes a
      → Elapses moment since leaves read_at lasted_at a b → faults a ≤ faults b → Stays a b
  one_call a b same quiet time later = record {
    same = same;
    changes_are = quiet;
    time = time;
    later = later;
  }

  -- calls behind others
  pub both : (a b c : D) → Stays a b → Stays b c → Stays a c
  both a b c first second = record {
    same = record {
      files = second.same.files ∙ first.same.files;
      images = record {
        fewer = λ name l has. first.same.images.fewer name l (second.same.images.fewer name l has);
        more = λ name l has. second.same.images.more name l (first.same.images.more name l has);
      };
    };
    changes_are = second.changes_are ∙ first.changes_are;
    time = record {
      later = record {
        no_sooner = omega (arith, first.time.later.no_sooner, second.time.later.no_sooner);
        remembers = λ t before.
            second.time.later.remembers t (omega (arith, before, first.time.later.no_sooner))
            ∙ first.time.later.remembers t before;
        lasted_then = λ t before. (
          λ has. (first.time.later.lasted_then t before).0 (
              (second.time.later.lasted_then t (
              omega (arith, before, first.time.later.no_sooner)
              )).0 has
              ),
          λ has. (second.time.later.lasted_then t (
              omega (arith, before, first.time.later.no_sooner)
              )).1 ((first.time.later.lasted_then t before).1 has),
        );
      };
      nothing_else = λ t image before has.
          elim (second.time.nothing_else t image
          (omega (arith, before, first.time.later.no_sooner)) has) [
            | inr now ↦ inr now
            | inl then_ ↦ elim (first.time.nothing_else t image before then_) [
              | inl old ↦ inl old
              | inr mid ↦
                  inr (λ name. second.same.images.more name _ (mid name))
            ]
          ];
      keeps = λ t image before has.
          second.time.keeps t image (omega (arith, before, first.time.later.no_sooner))
          (first.time.keeps t image before has);
    };
    later = omega (arith, first.later, second.later);
  }

-- one that comes behind others that counted none
pub told_on : (refusal : OpenFault) (f g k : ℕ) → g ≡ f → TellsFault refusal g k
    → TellsFault refusal f k
told_on refusal f g k same told = λ other. told other ∙ same

-- where none was counted, whatever the answer
pub still : {T : Type 0} (r : Result T OpenFault) (f g : ℕ) → g ≡ f → TellsEach f g r
still (Ok x) f g same = same
still (Err refusal) f g same = λ other. same
