-- What an accepted reading says. Assumes nothing.
use mathlib.Core.Path.{◌≡◌, refl, sym, ap, ◌∙◌}
use mathlib.Core.Bool.{Bool, true}
use mathlib.Core.List.{List}
use Prim.Native.Nat.{ℕ, ◌+◌, ◌*◌, ◌^◌, ◌<◌, ◌≤◌}
use native.Mathlib.Omega.{arith}
use lib.IntN.{pos}
use lib.ListN.{length}
use mir.Syntax.{w32}
use mir.Val.{of_z}
use mir.Facts.{of_z-to_z}
use Rattle.laws.specs.Bytes.{number_at}
use Rattle.laws.proofs.Bytes.{number-below}
use Rattle.laws.proofs.Lists.{get_or-tabulate, flat-div, flat-mod, flat-lt}
use Rattle.interval_records.specs.Layout.{Interval, head_length}
use Rattle.interval_records.specs.Record.{record_place, region_at}
use Rattle.intervals.specs.Reading.{interval_at}
use Rattle.interval_records.proofs.Says.{Bytes, HeadSays, RegionSays, LinkSays}
use Rattle.interval_records.proofs.Wholes.{Due, LinkDue}
use Rattle.intervals.proofs.Lasts.{last-region, last-link}

-- ---- 3. the interval that was read is what the bytes say
module _ (linked : Bool) (R M : ℕ) (bytes : List ℕ) (small : Bytes bytes) (at : ℕ) (which : ℕ → ℕ) where
  abbrev read : Interval
  read = interval_at linked R M bytes at which

  below : (p : ℕ) → p + 4 ≤ length bytes → number_at bytes p 4 < 2 ^ 32
  below p k = omega (arith, number-below bytes small p 4 k)

  pub read-region : (r : ℕ) → r < R → Due 17 M bytes (record_place M (at + head_length) (which r)) → region_at M bytes (at + head_length) (which r) ≡ r
      → RegionSays M bytes (record_place M (at + head_length) (which r)) read r
  read-region r h d e =
      let p = record_place M (at + head_length) (which r) in
      record {
        length = d.size;
        kind = d.kind;
        region = e;
        mark = sym (get_or-tabulate _ R r 0 h);
        flow = sym (ap (of_z w32) (last-region _ R _ linked r (pos 0) h) ∙ of_z-to_z {w = w32} (record { fits = below (p + 8) (omega (arith, d.room)) }));
        factor = sym (last-region _ R _ linked r 0 h);
        price = λ m l. sym (get_or-tabulate _ (R * M) (r * M + m) (pos 0) (flat-lt r m R M h l) ∙ rw (flat-div r m M l, flat-mod r m M l));
      }

  pub read-link : linked ≡ true → LinkDue bytes (record_place M (at + head_length) R) → LinkSays R bytes (record_place M (at + head_length) R) read
  read-link l d =
      let p = record_place M (at + head_length) R in
      record {
        length = d.size;
        kind = d.kind;
        flow = sym (ap (of_z w32) (last-link _ R _ linked (pos 0) l) ∙ of_z-to_z {w = w32} (record { fits = below (p + 6) (omega (arith, d.room)) }));
        factor = sym (last-link _ R _ linked 0 l);
      }

  pub read_head : Due 16 M bytes at → number_at bytes (at + 11) 1 ≡ R → HeadSays R bytes at read
  read_head d e = record { length = d.size; kind = d.kind; number = refl; day = refl; total = e }
