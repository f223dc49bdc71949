-- Of a restart: the image that was stored fits into the buffer. Assumes nothing.
use mathlib.Core.Path.{◌≡◌, sym, ap, ◌∙◌}
use mathlib.Core.Bool.{false}
use mathlib.Core.List.{List}
use Prim.Native.Nat.{ℕ, ◌≤◌}
use native.Mathlib.Omega.{arith}
use lib.IntN.{ℤ}
use lib.ListN.{length}
use Rattle.std.specs.Prelude.{Result, Ok}
use Rattle.book.specs.declared.record.Book.{Book}
use Rattle.book.specs.declared.record.Refusal.{Refusal}
use Rattle.book.specs.declared.record.Reply.{Reply}
use Rattle.book.specs.Record.{verdict, is_accepted}
use Rattle.image.specs.Storing as Storing
use Rattle.image.proofs.Verdicts.{stored_ok, ok_stored}

-- the image fits into the buffer
module _ (b : Book) (ring : List ℤ) (buffer d : List ℕ) (s : Reply ℕ) (h : Storing.outcome s d ≡ Storing.stored false b ring buffer) where
  pub image-fits : (n : ℕ) → s.answer ≡ Ok n → n ≤ length buffer
  image-fits n e =
      let ok = stored_ok false b ring buffer (ap (λ (x : Storing.Outcome). is_accepted x.verdict) (sym h) ∙ ap (λ (x : Result ℕ Refusal). is_accepted (verdict x)) e) in
      let q : n ≡ (Storing.stored false b ring buffer).length = ap Storing.length_in (sym e) ∙ ap (λ (x : Storing.Outcome). x.length) h in
      omega (arith, ok.room, q, ap (λ (x : Storing.Outcome). x.length) (ok_stored false b ring buffer ok))
