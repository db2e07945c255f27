use Rattle.std.proofs.Common.{
  ◌≡◌,
  ℕ,
  List,
  [],
  ◌∷◌,
  true,
  false,
  not,
  ◌&&◌,
  ◌==◌,
  Some,
  None,
  codes,
  refl,
  ap,
  sym,
  ◌∙◌,
  inl,
  inr,
  lit<,
  lit≤,
  arith,
}
use Rattle.std.specs.List.{list_all}
use Rattle.std.proofs.lemmas.Bool.Decides.{eqb_tells}
use Rattle.clog_words.specs.Given.{HasNoEquals}
use Rattle.clog_words.proofs.OneRequest.{one_request}
use Rattle.clog_words.proofs.laws.words_laws.Goals as goal

pub returns-clause-one : goal.returns-clause-one
returns-clause-one c = one_request

-- that a name has no `=`, by a test
whole : (name : List ℕ) → list_all (λ b. not (b == 61)) name ≡ true → HasNoEquals name
whole [] e = tt
whole (b ∷ name) e = elim (eqb_tells b 61) [
  | inl found ↦
      let no : false ≡ true =
      sym (ap (λ t. not t && list_all (λ b. not (b == 61)) name) found.0) ∙ e in absurd (cc)
  | inr other ↦ (
    other.1,
    whole name
        (sym (ap (λ t. not t && list_all (λ b. not (b == 61)) name) other.0) ∙ e),
  )
]

pub returns-clause-replay_apart : goal.returns-clause-replay_apart
returns-clause-replay_apart c = (
  refl,
  record {
    settings =
        record { name = codes "ignore-errors"; value = None }
        ∷ record { name = codes "workers"; value = Some (codes "064") } ∷ [];
    given = record {
      given = (
        codes "--workers" ∷ codes "064" ∷ [],
        record { name_is_whole = whole (codes "ignore-errors") refl; written = refl },
        (
          [],
          record {
            name_is_whole = whole (codes "workers") refl;
            written = inr (record { words_are = refl; no_dash = λ e. omega arith });
          },
          refl,
        ),
      );
      known = refl;
      once = refl;
    };
    says = record {
      workers = record {
        digits = (lit< tt, (lit< tt, (lit< tt, (lit< tt, tt))));
        short = lit≤ tt;
        value = refl;
        from = lit≤ tt;
        up_to = lit≤ tt;
      };
      ignore_errors = (refl, refl);
    };
  },
)

pub returns-clause-replay_joined : goal.returns-clause-replay_joined
returns-clause-replay_joined c = (
  refl,
  record {
    settings =
        record { name = codes "workers"; value = Some (codes "64") }
        ∷ record { name = codes "ignore-errors"; value = None } ∷ [];
    given = record {
      given = (
        codes "--ignore-errors" ∷ [],
        record { name_is_whole = whole (codes "workers") refl; written = inl refl },
        (
          [],
          record { name_is_whole = whole (codes "ignore-errors") refl; written = refl },
          refl,
        ),
      );
      known = refl;
      once = refl;
    };
    says = record {
      workers = record {
        digits = (lit< tt, (lit< tt, (lit< tt, tt)));
        short = lit≤ tt;
        value = refl;
        from = lit≤ tt;
        up_to = lit≤ tt;
      };
      ignore_errors = (refl, refl);
    };
  },
)
