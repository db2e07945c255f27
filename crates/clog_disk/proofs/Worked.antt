-- Worked cases of what a crash may leave, and of what is undone.
use Rattle.std.proofs.Common.{◌≡◌, List, ℕ, [], ◌∷◌, false, Option, Some, None, refl, arith}
use Rattle.clog_disk.specs.declared.stored.Undo.{Undo}
use Rattle.clog_disk.specs.declared.stored.Undo.TheVariants.{Cut, Absent, Was}
use Rattle.clog_disk.specs.declared.stored.sample.Left.TheVariants.{
  Written,
  Lasting,
  Zeroed,
  Cut as Cut_file,
}
use Rattle.clog_disk.specs.Stored.{Stored, may_leave, made_of, grown, settled}
use Rattle.clog_disk.specs.InMemory.{with_file, back, reading_at}
use Rattle.clog_disk.specs.Sample.{zeroed, sample_of}

-- three bytes, of which two last
abbrev file : Stored
file = grown (settled (made_of (1 ∷ 2 ∷ []))) (3 ∷ [])

stays_cut : may_leave (Some file) (Some (1 ∷ 2 ∷ []))
stays_cut = (refl, omega arith)

stays_torn : may_leave (Some file) (Some (1 ∷ 2 ∷ 9 ∷ []))
stays_torn = (refl, omega arith)

never_shorter : may_leave (Some file) (Some (1 ∷ [])) → ⊥
never_shorter left = cc

never_longer : may_leave (Some file) (Some (1 ∷ 2 ∷ 3 ∷ 4 ∷ [])) → ⊥
never_longer left = omega (arith, left.1)

never_gone : may_leave (Some file) None → ⊥
never_gone left = cc

made_is_gone : may_leave (Some (made_of (1 ∷ []))) None
made_is_gone = refl

-- two calls: a file is made with one byte, and one byte is put behind it
abbrev name : List ℕ
name = 7 ∷ []

abbrev undos : List Undo
undos = Absent name ∷ Cut name (record { size = 1; synced = 0; sure = false }) ∷ []

abbrev now : List ℕ → Option Stored
now = with_file (λ other. None) name (Some (made_of (1 ∷ 2 ∷ [])))

absent_at_first : back undos now name ≡ None
absent_at_first = refl

one_byte_between : reading_at now undos 1 name ≡ 1 ∷ []
one_byte_between = refl

both_bytes_at_last : reading_at now undos 2 name ≡ 1 ∷ 2 ∷ []
both_bytes_at_last = refl

-- what stood at a name before it was removed
what_was_removed_is_back : back (Was name file ∷ []) (λ other. None) name ≡ Some file
what_was_removed_is_back = refl

-- in a sample, zeros stand behind what lasts
zeros_behind_two_bytes : zeroed file ≡ 1 ∷ 2 ∷ 0 ∷ []
zeros_behind_two_bytes = refl

-- of two files, one of which has bytes that do not last, there are four images
four_images : sample_of ((name, file) ∷ (8 ∷ [], settled file) ∷ [])
    ≡ Written ∷ Lasting ∷ Cut_file name ∷ Zeroed name ∷ []
four_images = refl
