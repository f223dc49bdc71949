-- What a test load comes to, by the answer of its tests. Assumes nothing.
use mathlib.Core.Path.{◌≡◌, refl, sym, ap, ◌∙◌}
use mathlib.Core.Bool.{Bool, true, not}
use mathlib.Core.List.{List}
use Prim.Native.Nat.{ℕ, ◌+◌, ◌*◌, ◌%◌}
use native.Mathlib.Omega.{arith}
use lib.IntN.{ℤ}
use lib.ListN.{length, replicate}
use Rattle.laws.specs.Base.{pick}
use Rattle.laws.specs.Lists.{tabulate}
use Rattle.laws.proofs.Lists.{tabulate-same}
use Rattle.pricing.specs.Verdict.{Verdict, accepted, refused}
use Rattle.book.specs.declared.record.Book.{Book}
use Rattle.book.specs.declared.record.Refusal.{Refusal}
use Rattle.std.specs.Prelude.{Result, Ok, Err}
use Rattle.book.specs.Record.{markets_of, table_size, link_count, is_accepted}
use Rattle.book.specs.Record as Record
use Rattle.book.specs.Validity.{valid}
use Rattle.book.proofs.Ways.{is-accepted, is-refused}
use Rattle.book.proofs.Passes.{passes-not}
use Rattle.interval_records.specs.Layout.{Interval, interval_of}
use Rattle.intervals.specs.Lent.{slices_ok}
use Rattle.intervals.specs.Working.{lent_verdict}
use Rattle.intervals.proofs.Sizes.{prices-size, marked-size, flows-size, factors-size}
use Rattle.drawing.specs.Drawing.{seed_after, drawn, price_of, flow_of, factor_of}
use Rattle.synthetic.specs.Synthetic.{draw_verdict, outcome, synthesized}
use Rattle.synthetic.proofs.Seeds.{seed-add}

-- ---- draws from the seed that n draws leave are those after the n
module _ (s n between : ℕ) (b : between ≡ seed_after n s) where
  seed-after : (m : ℕ) → seed_after m between ≡ seed_after (n + m) s
  seed-after m = ap (seed_after m) b ∙ sym (seed-add n m s)

  drawn-after : (i : ℕ) → drawn between i ≡ drawn s (n + i)
  drawn-after i =
      let e : n + (i + 1) ≡ n + i + 1 = omega arith in
      rw (seed-after (i + 1), e) refl

  drawn-all : {A : Type 0} (of : ℕ → A) (i j : ℕ → ℕ) (l m : ℕ) → l ≡ m → ((r : ℕ) → n + i r ≡ j r)
      → tabulate l (λ r. of (drawn between (i r))) ≡ tabulate m (λ r. of (drawn s (j r)))
  drawn-all of i j l m e h =
      ap (λ (k : ℕ). tabulate k (λ r. of (drawn between (i r)))) e
      ∙ tabulate-same m _ _ (λ r w. ap of (drawn-after (i r) ∙ ap (drawn s) (h r)))

-- ---- the tests, over what they say
abbrev pub tests : Bool → Bool → Verdict
tests ok fit = pick (not ok) (refused 10) (pick (not fit) (refused 11) accepted)

pub draw-tests : (b : Book) (lent : Interval) → draw_verdict b lent ≡ tests (valid b) (slices_ok b lent)
unfolding draw_verdict
draw-tests b lent = refl

-- ---- the call, by the answer of its tests: `v` holds the four slices that are lent
module _ (b : Book) (s number kind : ℕ) (v : Interval) where
  abbrev lent : Interval
  lent = interval_of 0 0 v.prices v.marked v.flows v.factors

  abbrev answered : Verdict
  answered = lent_verdict b (length v.prices) (length v.marked) (length v.flows) (length v.factors)

  -- they are the first tests of a read
  same : draw_verdict b lent ≡ answered
  unfolding lent_verdict
  same = draw-tests b lent

  module _ (a : Result Unit Refusal) (h : Record.verdict a ≡ answered) where
    pub draw-refused : (r : Refusal) → a ≡ Err r
        → outcome (record { book = b; answer = Err r }) v.prices v.marked v.flows v.factors
        ≡ synthesized b s number kind lent
    unfolding synthesized
    draw-refused r q =
        let p = is-refused a answered h r q in
        rw (same, p.1, p.0) refl

    module _ (q : a ≡ Ok tt) where
      takes : draw_verdict b lent ≡ accepted
      takes = same ∙ is-accepted a answered h tt q

      fits : slices_ok b v ≡ true
      fits =
          let e : is_accepted (tests (valid b) (slices_ok b lent)) ≡ true = ap is_accepted (sym (draw-tests b lent) ∙ takes) in
          (passes-not (slices_ok b v) (refused 11) accepted refl (passes-not (valid b) (refused 10) _ refl e).1).0

      pub lengths : (length v.prices ≡ table_size b.regions b.services)
          × (length v.marked ≡ b.regions)
          × (length v.flows ≡ link_count b)
          × (length v.factors ≡ link_count b)
      lengths = (prices-size b v fits, marked-size b v fits, flows-size b v fits, factors-size b v fits)

      -- prices from the seed on, flows and factors from the seed between
      pub draw-made : (between last : ℕ) (prices : List ℤ) (marked : List ℕ) (flows : List ℤ) (factors : List ℕ)
          → between ≡ seed_after (length v.prices) s
          → last ≡ seed_after (2 * length v.flows) between
          → prices ≡ tabulate (length v.prices) (λ q. price_of (q % markets_of b.services) (drawn s q))
          → marked ≡ replicate (length v.marked) 0
          → flows ≡ tabulate (length v.flows) (λ r. flow_of (drawn between (2 * r)))
          → factors ≡ tabulate (length v.flows) (λ r. factor_of (drawn between (2 * r + 1)))
          → outcome (record { book = b; answer = Ok (record { seed = last; number = number; kind = kind }) }) prices marked flows factors ≡ synthesized b s number kind lent
      unfolding synthesized
      draw-made between last prices marked flows factors eb el ep em ef ex =
          let N = table_size b.regions b.services in
          let n : length v.prices ≡ N = lengths.0 in
          let m : length v.flows ≡ link_count b = lengths.2 in
          let y : between ≡ seed_after N s = eb ∙ ap (λ (k : ℕ). seed_after k s) n in
          let price : ℕ → ℤ = λ q. price_of (q % markets_of b.services) (drawn s q) in
          let l : last ≡ seed_after (N + 2 * link_count b) s =
          el ∙ ap (λ (k : ℕ). seed_after (2 * k) between) m ∙ seed-after s N between y (2 * link_count b) in
          let p : prices ≡ tabulate N price = ep ∙ ap (λ (k : ℕ). tabulate k price) n in
          let k : marked ≡ replicate b.regions 0 = em ∙ ap (λ (k : ℕ). replicate k 0) lengths.1 in
          let f : flows ≡ tabulate (link_count b) (λ r. flow_of (drawn s (N + 2 * r))) =
          ef ∙ drawn-all s N between y flow_of (λ r. 2 * r) (λ r. N + 2 * r) _ (link_count b) m (λ r. refl) in
          let x : factors ≡ tabulate (link_count b) (λ r. factor_of (drawn s (N + 2 * r + 1))) =
          ex ∙ drawn-all s N between y factor_of (λ r. 2 * r + 1) (λ r. N + 2 * r + 1) _ (link_count b) m (λ r. omega arith) in
          rw (takes, l, p, k, f, x) refl
