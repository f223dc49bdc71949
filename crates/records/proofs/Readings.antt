-- Records of calls read from bytes: what each definition comes to, by the way that its tests take, and an entry's contents. Assumes nothing.
use mathlib.Core.Path.{◌≡◌, refl, sym, ap, ◌∙◌}
use mathlib.Core.Bool.{Bool, true, false, ◌&&◌}
use mathlib.Core.List.{List, ◌++◌}
use Prim.Native.Nat.{ℕ, ◌+◌, ◌-◌, ◌*◌, ◌≤◌, ◌<◌}
use native.Mathlib.Omega.{arith}
use lib.Dec.{eqb, leb, ltb}
use lib.IntN.{ℤ}
use lib.ListN.{length, get_or}
use lib.Seq.{sets}
use mir.Syntax.{w32, w64}
use mir.Val.{to_z}
use borrow.Author.Tests.{lt-ltb, le-ltb, le-leb, lt-leb, eq-eqb, ne_eqb, eqb-true, eqb-false, leb-true, ltb-true, ltb-false}
use Rattle.std.specs.Prelude.{Some, None}
use Rattle.laws.specs.Base.{pick}
use Rattle.laws.specs.Lists.{tabulate}
use Rattle.laws.specs.Bytes.{number_at, price_at}
use Rattle.laws.proofs.Tests.{by-test}
use Rattle.laws.proofs.Lists.{length_run}
use Rattle.laws.proofs.Bytes.{number-below, sets-append}
use Rattle.book.specs.declared.record.Settings.{Settings}
use Rattle.records.specs.declared.reading.Lengths.{Lengths}
use Rattle.records.specs.declared.reading.Room.{Room}
use Rattle.records.specs.Reading.{size_at, kind_at, opening_size, parent_at, settings_in, opens, lengths_at, entry_size, entry_size_at, size_for, call_size, fits, answer_size, goes, words_at, numbers_at, prices_from, flows_from, factors_from, schedule_from, table_from, signed_at, factors_at, table_at}
use Rattle.records.specs.declared.reading.Sizes.{Sizes}
use Rattle.records.specs.Working.{some_size, sizes_at, next_call}

-- ---- a size as an Option
pub sized : (n m : ℕ) → n ≡ m → 0 < n → Some n ≡ some_size m
sized n m e h = let z : n ≡ 0 → ⊥ = λ q. omega arith in rw (← e, ne_eqb n 0 z)

pub size-some : (n k : ℕ) → some_size n ≡ Some k → (k ≡ n) × (0 < k)
size-some n k = by (eqb n 0) refl
  where
    by : (t : Bool) → eqb n 0 ≡ t → pick t None (Some n) ≡ Some k → (k ≡ n) × (0 < k)
    by true e h = cc
    by false e h = let q : n ≡ k = cc in (sym q, omega (arith, eqb-false n 0 e))

pub size-none : (n : ℕ) → some_size n ≡ None → n ≡ 0
size-none n = by (eqb n 0) refl
  where
    by : (t : Bool) → eqb n 0 ≡ t → pick t None (Some n) ≡ None → n ≡ 0
    by true e h = eqb-true n 0 e
    by false e h = cc

-- ---- records made field by field
pub settings-are : (c : List ℕ) (s : Settings) → s.regions ≡ number_at c 6 1 → s.services ≡ number_at c 7 1 → s.window ≡ number_at c 8 2 → s.halves ≡ number_at c 10 1
    → s.first ≡ number_at c 12 2 → s.parents ≡ tabulate 8 (parent_at c) → s.from ≡ 255 → s.to ≡ 255 → s.threshold ≡ to_z w64 (number_at c 22 8) → s.cap ≡ to_z w32 (number_at c 30 4)
    → s.floor ≡ to_z w32 (number_at c 34 4) → s ≡ settings_in c
settings-are c s r v w h f p x y t k o =
    λ i. record { regions = r i; services = v i; window = w i; halves = h i; first = f i; parents = p i; from = x i; to = y i; threshold = t i; cap = k i; floor = o i }

pub lengths-are : (c : List ℕ) (at : ℕ) (l : Lengths) → l.prices ≡ number_at c (at + 12) 4 → l.marks ≡ number_at c (at + 16) 4 → l.flows ≡ number_at c (at + 20) 4
    → l.factors ≡ number_at c (at + 24) 4 → l.schedule ≡ number_at c (at + 28) 4 → l.table ≡ number_at c (at + 32) 4 → l.ring ≡ number_at c (at + 36) 4 → l ≡ lengths_at c at
lengths-are c at l p m f x s t r = λ i. record { prices = p i; marks = m i; flows = f i; factors = x i; schedule = s i; table = t i; ring = r i }

-- ---- the opening
module _ (c : List ℕ) where
  pub opens-short : length c < opening_size → false ≡ opens c
  unfolding opens
  opens-short h = rw (lt-leb opening_size (length c) h)

  pub opens-whole : opening_size ≤ length c → (eqb (size_at c 0) opening_size && (eqb (kind_at c 0) 64 && eqb (number_at c 11 1) 0)) ≡ opens c
  unfolding opens
  opens-whole h = rw (le-leb opening_size (length c) h)

module _ (c : List ℕ) (at : ℕ) where
  -- ---- the length of an entry's record
  pub entry-short : length c - at < 40 → 0 ≡ entry_size_at c at
  unfolding entry_size_at
  entry-short h = rw (lt-ltb (length c - at) 40 h)

  pub entry_zero : 40 ≤ length c - at → (number_at c (at + 11) 1 ≡ 0 → ⊥) → 0 ≡ entry_size_at c at
  unfolding entry_size_at
  entry_zero h z = rw (le-ltb (length c - at) 40 h, ne_eqb (number_at c (at + 11) 1) 0 z)

  pub entry_whole : 40 ≤ length c - at → number_at c (at + 11) 1 ≡ 0 → (n : ℕ) → n ≡ entry_size (lengths_at c at) → n ≡ entry_size_at c at
  unfolding entry_size_at
  entry_whole h z n e = rw (le-ltb (length c - at) 40 h, eq-eqb (number_at c (at + 11) 1) 0 z) e

  -- ---- the length of a record of a kind
  module _ (kind : ℕ) where
    pub for-entry : kind ≡ 65 → (n : ℕ) → n ≡ entry_size_at c at → n ≡ size_for c at kind
    unfolding size_for
    for-entry k n e = rw (eq-eqb kind 65 k) e

    pub for-three : 66 ≤ kind → kind ≤ 68 → 14 ≡ size_for c at kind
    unfolding size_for
    for-three a b = let k : kind ≡ 65 → ⊥ = λ e. omega arith in rw (ne_eqb kind 65 k, le-leb 66 kind a, le-leb kind 68 b)

    -- neither of the three nor an entry
    module _ (k : kind ≡ 65 → ⊥) (h : 66 ≤ kind → kind ≤ 68 → ⊥) where
      outside : (leb 66 kind && leb kind 68) ≡ false
      outside =
          by-test (leb 66 kind) (λ a. by-test (leb kind 68) (λ b. absurd (h (leb-true 66 kind a) (leb-true kind 68 b))) (λ b. rw (a, b) refl)) (λ a. rw a refl)

      pub for-restart : kind ≡ 69 → 6 ≡ size_for c at kind
      unfolding size_for
      for-restart r = rw (ne_eqb kind 65 k, outside, eq-eqb kind 69 r)

      pub for-none : (kind ≡ 69 → ⊥) → 0 ≡ size_for c at kind
      unfolding size_for
      for-none r = rw (ne_eqb kind 65 k, outside, ne_eqb kind 69 r)

  -- ---- the length of a whole record
  call-tests : pick (ltb (length c - at) 6) 0 (pick (ltb (length c - at) (size_at c at)) 0 (pick (eqb (size_at c at) (size_for c at (kind_at c at))) (size_at c at) 0)) ≡ call_size c at
  unfolding call_size
  call-tests = refl

  pub call-short : length c - at < 6 → 0 ≡ call_size c at
  call-short h = (rw (lt-ltb (length c - at) 6 h) refl) ∙ call-tests

  module _ (h : 6 ≤ length c - at) where
    pub call-cut : length c - at < size_at c at → 0 ≡ call_size c at
    call-cut l = (rw (le-ltb (length c - at) 6 h, lt-ltb (length c - at) (size_at c at) l) refl) ∙ call-tests

    module _ (l : size_at c at ≤ length c - at) where
      pub call-whole : size_at c at ≡ size_for c at (kind_at c at) → size_at c at ≡ call_size c at
      call-whole e =
          (rw (le-ltb (length c - at) 6 h, le-ltb (length c - at) (size_at c at) l, eq-eqb (size_at c at) (size_for c at (kind_at c at)) e) refl) ∙ call-tests

      pub call-other : (size_at c at ≡ size_for c at (kind_at c at) → ⊥) → 0 ≡ call_size c at
      call-other e =
          (rw (le-ltb (length c - at) 6 h, le-ltb (length c - at) (size_at c at) l, ne_eqb (size_at c at) (size_for c at (kind_at c at)) e) refl) ∙ call-tests

  -- of an unknown kind
  pub call-unknown : size_for c at (kind_at c at) ≡ 0 → 0 ≡ call_size c at
  unfolding call_size
  call-unknown z = sym (rw z (nothing (ltb (length c - at) 6) (ltb (length c - at) (size_at c at)) (size_at c at)))
    where
      nothing : (a b : Bool) (n : ℕ) → pick a 0 (pick b 0 (pick (eqb n 0) n 0)) ≡ 0
      nothing true b n = refl
      nothing false true n = refl
      nothing false false n = by-test (eqb n 0) (λ e. rw e (eqb-true n 0 e)) (λ e. rw e)

  -- where a whole record stands, so many bytes are left
  module _ (h : call_size c at ≡ 0 → ⊥) where
    pub call-six : 6 ≤ length c - at
    unfolding call_size
    call-six = by-test (ltb (length c - at) 6) (λ e. absurd (h (rw e))) (ltb-false _ _)

    pub call-forty : kind_at c at ≡ 65 → 40 ≤ length c - at
    call-forty k =
        by-test (ltb (length c - at) 40)
        (λ e. absurd (h (sym (call-unknown (sym (for-entry (kind_at c at) k 0 (entry-short (ltb-true _ _ e))))))))
        (ltb-false _ _)

  -- ---- the length of an answer
  pub answer-entry : kind_at c at ≡ 65 → (n : ℕ) → n ≡ number_at c (at + 32) 4 → 18 + 4 * n ≡ answer_size c at
  unfolding answer_size
  answer-entry k n e = rw (eq-eqb (kind_at c at) 65 k, e)

  pub answer-report : (kind_at c at ≡ 65 → ⊥) → kind_at c at ≡ 68 → 34 ≡ answer_size c at
  unfolding answer_size
  answer-report k r = rw (ne_eqb (kind_at c at) 65 k, eq-eqb (kind_at c at) 68 r)

  pub answer-plain : (kind_at c at ≡ 65 → ⊥) → (kind_at c at ≡ 68 → ⊥) → 14 ≡ answer_size c at
  unfolding answer_size
  answer-plain k r = rw (ne_eqb (kind_at c at) 65 k, ne_eqb (kind_at c at) 68 r)

  -- ---- whether a call is played
  module _ (m : Room) (left : ℕ) where
    pub goes_none : call_size c at ≡ 0 → false ≡ goes m c at left
    unfolding goes
    goes_none z = rw (eq-eqb (call_size c at) 0 z)

    module _ (h : call_size c at ≡ 0 → ⊥) where
      pub goes-unfit : kind_at c at ≡ 65 → fits m (lengths_at c at) ≡ false → false ≡ goes m c at left
      unfolding goes
      goes-unfit k f = rw (ne_eqb (call_size c at) 0 h, eq-eqb (kind_at c at) 65 k, f)

      pub goes-entry : kind_at c at ≡ 65 → fits m (lengths_at c at) ≡ true → leb (answer_size c at) left ≡ goes m c at left
      unfolding goes
      goes-entry k f = rw (ne_eqb (call_size c at) 0 h, eq-eqb (kind_at c at) 65 k, f)

      pub goes_other : (kind_at c at ≡ 65 → ⊥) → leb (answer_size c at) left ≡ goes m c at left
      unfolding goes
      goes_other k = rw (ne_eqb (call_size c at) 0 h, ne_eqb (kind_at c at) 65 k)

    -- its sizes, if it is played
    pub next-unplayed : false ≡ goes m c at left → None ≡ next_call m c at left
    next-unplayed e = rw (← e) refl

    module _ (answer : ℕ) (a : answer ≡ answer_size c at) (t : leb (answer_size c at) left ≡ goes m c at left) where
      pub next-roomless : left < answer → None ≡ next_call m c at left
      next-roomless h = next-unplayed (sym (lt-leb (answer_size c at) left (omega arith)) ∙ t)

      pub next-played : answer ≤ left → (call : ℕ) → call ≡ call_size c at → Some (record { call = call; answer = answer }) ≡ next_call m c at left
      next-played h call e = let r : leb (answer_size c at) left ≡ true = le-leb (answer_size c at) left (omega arith) in rw (← t, r, e, a)

    pub next-some : (k : Sizes) → next_call m c at left ≡ Some k → (goes m c at left ≡ true) × (k.call ≡ call_size c at) × (k.answer ≡ answer_size c at)
    next-some k = by (goes m c at left) refl
      where
        by : (t : Bool) → goes m c at left ≡ t → pick t (Some (sizes_at c at)) None ≡ Some k
            → (goes m c at left ≡ true) × (k.call ≡ call_size c at) × (k.answer ≡ answer_size c at)
        by true e h =
            let q : sizes_at c at ≡ k = cc in (e, ap (λ (x : Sizes). x.call) (sym q), ap (λ (x : Sizes). x.answer) (sym q))
        by false e h = cc

    pub next-none : next_call m c at left ≡ None → goes m c at left ≡ false
    next-none = by (goes m c at left) refl
      where
        by : (t : Bool) → goes m c at left ≡ t → pick t (Some (sizes_at c at)) None ≡ None → goes m c at left ≡ false
        by true e h = cc
        by false e h = e

  -- ---- the lengths in an entry's record are below 2 ^ 32
  pub lengths-small : ((i : ℕ) → get_or c i 0 < 256) → at + 40 ≤ length c → (l : Lengths) → l ≡ lengths_at c at
      → (l.prices ≤ 4294967295) × (l.marks ≤ 4294967295) × (l.flows ≤ 4294967295) × (l.factors ≤ 4294967295) × (l.schedule ≤ 4294967295) × (l.table ≤ 4294967295)
  lengths-small b h l e =
      let small : (p : ℕ) → p + 4 ≤ 40 → number_at c (at + p) 4 ≤ 4294967295 = λ p q. omega (arith, number-below c b (at + p) 4 (omega arith)) in
      rw e (small 12 (omega arith), small 16 (omega arith), small 20 (omega arith), small 24 (omega arith), small 28 (omega arith), small 32 (omega arith))

-- ---- an entry's contents, part after part
joined : (n xs ys zs : List ℤ) (p f : ℕ) → length xs ≡ p → length ys ≡ f → sets (sets (sets n 0 xs) p ys) (p + f) zs ≡ sets n 0 (xs ++ (ys ++ zs))
joined n xs ys zs p f a b =
    let z : 0 + length xs ≡ p = omega arith in
    sym (sets-append n 0 xs (ys ++ zs) ∙ rw z (sets-append (sets n 0 xs) p ys zs ∙ rw b))

module _ (c : List ℕ) (at : ℕ) (l : Lengths) (e : l ≡ lengths_at c at) where
  pub signed-read : (n₀ n₁ n₂ n₃ : List ℤ) → n₁ ≡ sets n₀ 0 (words_at c (at + prices_from) l.prices) → n₂ ≡ sets n₁ l.prices (words_at c (at + flows_from l) l.flows)
      → n₃ ≡ sets n₂ (l.prices + l.flows) (words_at c (at + schedule_from l) l.schedule) → n₃ ≡ sets n₀ 0 (signed_at c at)
  signed-read n₀ n₁ n₂ n₃ p f s =
      let a = length_run (price_at c (at + prices_from)) l.prices 0 in
      let b = length_run (price_at c (at + flows_from l)) l.flows 0 in
      let j = joined n₀ (words_at c (at + prices_from) l.prices) (words_at c (at + flows_from l) l.flows) (words_at c (at + schedule_from l) l.schedule) l.prices l.flows a b in
      rw (s, f, p)
      (j ∙ ap (λ (k : Lengths). sets n₀ 0 (words_at c (at + prices_from) k.prices ++ (words_at c (at + flows_from k) k.flows ++ words_at c (at + schedule_from k) k.schedule))) e)

  pub factors-read : (n₀ n₁ : List ℕ) → n₁ ≡ sets n₀ 0 (numbers_at c (at + factors_from l) l.factors) → n₁ ≡ sets n₀ 0 (factors_at c at)
  factors-read n₀ n₁ q = q ∙ ap (λ (k : Lengths). sets n₀ 0 (numbers_at c (at + factors_from k) k.factors)) e

  pub table-read : (n₀ n₁ : List ℤ) → n₁ ≡ sets n₀ 0 (words_at c (at + table_from l) l.table) → n₁ ≡ sets n₀ 0 (table_at c at)
  table-read n₀ n₁ q = q ∙ ap (λ (k : Lengths). sets n₀ 0 (words_at c (at + table_from k) k.table)) e
