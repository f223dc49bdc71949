-- The limits of a book over an entry's links: their ranges, the search that finds them, and the numbers that bind a price as they do. Assumes nothing.
use Rattle.std.specs.Prelude.{Option, Some, None}
use mathlib.Core.Path.{◌≡◌, refl, sym, ap, ◌∙◌, subst}
use mathlib.Core.Bool.{Bool, true, false, ◌&&◌}
use mathlib.Core.List.{List, [], ◌∷◌}
use Prim.Native.Nat.{ℕ, zero, suc, ◌+◌, ◌*◌, ◌≤◌, ◌<◌}
use native.Mathlib.Omega.{arith}
use lib.Dec.{T, ltb}
use lib.IntN.{ℤ, pos, negsuc, nat_abs}
use lib.ListN.{get_or, replicate, get_or-replicate}
use lib.Signed.{le_z, ◌≤ℤ◌}
use mir.Syntax.{w32}
use mir.Val.{SFits}
use borrow.Author.Tests.{lt-ltb, ltb-true}
use Rattle.laws.specs.Base.{pick, min_z, max_z}
use Rattle.laws.specs.Lists.{run}
use Rattle.laws.proofs.Integers.{integers, abs-fits, le_order}
use Rattle.laws.proofs.Tests.{and_left, and_right}
use Rattle.laws.proofs.Lists.{get_or-tabulate, tabulate-same}
use Rattle.pricing.specs.Holding.{limits_ok}
use Rattle.pricing.specs.Carrying.{Factor}
use Rattle.book.proofs.Ways.{links-least, links-more}
use Rattle.pricing.specs.Passing.{fine, cents}
use Rattle.pricing.proofs.Passings.{fine-size, fine-above, fine-below}
use Rattle.routes.specs.Limits.{own}
use Rattle.routes.specs.Links.{power_of, powers_of}
use Rattle.routes.specs.Lent.{LentLinks}
use Rattle.routes.specs.Routes.{limit_of}
use Rattle.routes.specs.Search.{Linked, Sized, Searched}
use Rattle.routes.proofs.Routes.{limit-same}
use Rattle.routes.proofs.Links.{Child, power-table, power-linked}
use Rattle.std.proofs.lemmas.Option.{none-some, same_Some}
use Rattle.routes.proofs.Sizes.{Kept, limit-kept, limit-small, cap-above as cap-kept, floor-below as floor-kept}
use Rattle.publishing.specs.declared.Terms.{Terms}
use Rattle.publishing.specs.Entry.{Offer, TermsOk, LinksOk, network_of}
use Rattle.publishing.specs.Bounds.{has_limit, in_cents, limit}
use Rattle.publishing.specs.Working.{Fine, sources, bounds_of}

-- ---- what the code finds of a limit in ten-thousandths of a cent
pub fine-at : {l : Option ℤ} {z : ℤ} → l ≡ Some z → Fine l → nat_abs z ≤ 12800000000000
fine-at e s = subst Fine e s

pub cents-none : {l : Option ℤ} → l ≡ None → None ≡ in_cents l
unfolding in_cents
cents-none e = rw e refl

pub cents_at : {l : Option ℤ} {z : ℤ} → l ≡ Some z → Some (cents z) ≡ in_cents l
unfolding in_cents
cents_at e = rw e refl

pub in-cents-at : (l : Option ℤ) {q : ℤ} → in_cents l ≡ Some q → (z : ℤ) × (l ≡ Some z) × (q ≡ cents z)
unfolding in_cents
in-cents-at None e = absurd (none-some _ e)
in-cents-at (Some z) e = (z, refl, sym (same_Some _ _ e))

-- ---- one of two 32-bit numbers
pub pick-fits : (b : Bool) {x y : ℤ} → SFits w32 x → SFits w32 y → SFits w32 (pick b x y)
pick-fits true f g = f
pick-fits false f g = g

pub min-fits : {x y : ℤ} → SFits w32 x → SFits w32 y → SFits w32 (min_z x y)
unfolding min_z
min-fits {x} {y} f g = pick-fits (le_z x y) f g

pub max-fits : {x y : ℤ} → SFits w32 x → SFits w32 y → SFits w32 (max_z x y)
unfolding max_z
max-fits {x} {y} f g = pick-fits (le_z x y) g f

-- ---- the cap and the floor of a book
pub limits-are : (cap floor : ℤ) → limits_ok cap floor ≡ true
    → ((le_z (pos 1) cap ≡ true) × (le_z cap (pos 10000000) ≡ true)) × ((le_z (negsuc 9999999) floor ≡ true) × (le_z floor (negsuc 0) ≡ true))
limits-are cap floor h =
    let a = le_z (pos 1) cap in
    let b = le_z cap (pos 10000000) in
    let c = le_z (negsuc 9999999) floor in
    let d = le_z floor (negsuc 0) in
    let abc = and_left (a && b && c) d h in
    let ab = and_left (a && b) c abc in
    ((and_left a b ab, and_right a b ab), (and_right (a && b) c abc, and_right (a && b && c) d h))

cap-size : (z : ℤ) → le_z (pos 1) z ≡ true → le_z z (pos 10000000) ≡ true → nat_abs z ≤ 10000000
cap-size (pos n) a b = omega integers
cap-size (negsuc n) a b = absurd (omega integers)

floor-size : (z : ℤ) → le_z (negsuc 9999999) z ≡ true → le_z z (negsuc 0) ≡ true → nat_abs z ≤ 10000000
floor-size (pos n) a b = absurd (omega integers)
floor-size (negsuc n) a b = omega integers

-- the limit of a source
abbrev pub source : Bool → Terms → ℤ
source caps t = pick caps t.cap t.floor

module _ (t : Terms) (ok : TermsOk t) where
  pub source-small : (caps : Bool) → nat_abs (source caps t) ≤ 10000000
  source-small true = let l = (limits-are t.cap t.floor ok.limits).0 in cap-size t.cap l.0 l.1
  source-small false = let l = (limits-are t.cap t.floor ok.limits).1 in floor-size t.floor l.0 l.1

  pub source_fits : (caps : Bool) → SFits w32 (source caps t)
  source_fits caps = abs-fits w32 (source caps t) (omega (arith, source-small caps))

  pub cap-least : pos 1 ≤ℤ t.cap
  cap-least = let l = (limits-are t.cap t.floor ok.limits).0.0 in le_order (pos 1) t.cap (omega integers)

  pub floor-most : t.floor ≤ℤ negsuc 0
  floor-most = let l = (limits-are t.cap t.floor ok.limits).1.1 in le_order t.floor (negsuc 0) (omega integers)

-- ---- the limits over the links of an entry
-- 255 stands, whatever is read past the end
pub parent-read : (l : List ℕ) (k : ℕ) → get_or l k 0 ≡ 255 → get_or l k 255 ≡ 255
parent-read [] k e = refl
parent-read (a ∷ l) zero e = e
parent-read (a ∷ l) (suc k) e = parent-read l k e

pub child-linked : (t : Terms) (flows : List ℤ) (factors : List ℕ) → LinksOk t flows factors → (r : ℕ) → r < t.regions → Child t.parents r → Factor (get_or factors r 0)
child-linked t flows factors links r i c = links.linked r i (λ e. c (parent-read t.parents r e))

-- the limit of a region where the regions that pass a test are sources
abbrev pub limit_by : Bool → Terms → List ℤ → List ℕ → (ℕ → Bool) → ℕ → Option ℤ
limit_by caps t flows factors test = limit_of caps (power_of (network_of t) flows factors) (λ x. pick (test x) (Some (fine (source caps t))) None) t.regions

pub limit-by : (caps : Bool) (t : Terms) (flows : List ℤ) (factors : List ℕ) (test test' : ℕ → Bool) → ((x : ℕ) → x < t.regions → test x ≡ test' x)
    → (x : ℕ) → x < t.regions → limit_by caps t flows factors test x ≡ limit_by caps t flows factors test' x
limit-by caps t flows factors test test' e x here =
    limit-same caps (power_of (network_of t) flows factors) (power_of (network_of t) flows factors) _ _ t.regions (λ x y i j. refl) (λ y i. rw (e y i)) x here

source-kept : (P : ℤ → Type 0) (z : ℤ) → P z → (b : Bool) → Kept P (pick b (Some z) None)
source-kept P z h true = h
source-kept P z h false = tt

module _ (t : Terms) (ok : TermsOk t) (flows : List ℤ) (factors : List ℕ) (links : LinksOk t flows factors) where
  pub linked : (x y : ℕ) → x < t.regions → y < t.regions → Linked (power_of (network_of t) flows factors x y)
  linked = power-linked (network_of t) flows factors ok.regions.1 (child-linked t flows factors links) links.extra

  module _ (test : ℕ → Bool) (x : ℕ) (here : x < t.regions) where
    -- a limit that a 32-bit number holds in cents
    pub small : (caps : Bool) → Fine (limit_by caps t flows factors test x)
    small caps = go (limit_by caps t flows factors test x) refl
      where
        sized : (b : Bool) → Sized 100000000000 (pick b (Some (fine (source caps t))) None)
        sized true = fine-size (source caps t) 10000000 (source-small t ok caps)
        sized false = tt

        go : (l : Option ℤ) → limit_by caps t flows factors test x ≡ l → Fine l
        go None e = tt
        go (Some z) e = limit-small (power_of (network_of t) flows factors) t.regions ok.regions.1 linked x here caps 100000000000 _ (λ y i. sized (test y)) e

    -- without a source no limit travels
    pub unbound : (caps : Bool) → ((y : ℕ) → y < t.regions → test y ≡ false) → limit_by caps t flows factors test x ≡ None
    unbound caps none =
        is_open (limit_by caps t flows factors test x)
        (limit-kept caps (power_of (network_of t) flows factors) _ t.regions linked (λ n z. ⊥) (λ n f z l h. h) (λ n y i. go (test y) (none y i)) x here)
      where
        is_open : (l : Option ℤ) → Kept (λ z. ⊥) l → l ≡ None
        is_open None k = refl
        is_open (Some z) k = absurd k

        go : (b : Bool) → b ≡ false → Kept (λ z. ⊥) (pick b (Some (fine (source caps t))) None)
        go true e = absurd (subst T e tt)
        go false e = tt

    -- a cap limit stays above 0 and a floor limit below
    pub cap-above : {z : ℤ} → limit_by true t flows factors test x ≡ Some z → pos 1 ≤ℤ z
    cap-above e =
        cap-kept (power_of (network_of t) flows factors) t.regions ok.regions.1 linked x here _
        (λ y i. source-kept (λ z. pos 1 ≤ℤ z) (fine t.cap) (fine-above t.cap (cap-least t ok)) (test y)) e

    pub floor-below : {z : ℤ} → limit_by false t flows factors test x ≡ Some z → z ≤ℤ negsuc 9999
    floor-below e =
        floor-kept (power_of (network_of t) flows factors) t.regions ok.regions.1 linked x here 9999 _
        (λ y i. source-kept (λ z. z ≤ℤ negsuc 9999) (fine t.floor) (fine-below t.floor (floor-most t ok)) (test y)) e

-- ---- what the table of powers is made from: R places, and a last one exactly where there is the additional link
pub lent-links : (t : Terms) → TermsOk t → (flows : List ℤ) (factors : List ℕ) → LinksOk t flows factors → LentLinks (network_of t) flows factors
lent-links t ok flows factors links =
    let n = links.flows-size in
    record {
      few = ok.regions.1;
      each = rw n (links-least t.regions t.from);
      last = λ e. rw n (rw (links-more t.regions t.from e) (omega arith));
      alike = links.factors-size ∙ sym n;
    }

-- ---- the search, by the table of powers
module _ (t : Terms) (ok : TermsOk t) (flows : List ℤ) (factors : List ℕ) (links : LinksOk t flows factors)
    {powers : List ℕ} (e : powers ≡ powers_of (network_of t) flows factors) (caps : Bool) {bound : ℤ} (b : bound ≡ fine (source caps t)) where
  power_at : (x y : ℕ) → x < t.regions → y < t.regions → get_or powers (8 * x + y) 0 ≡ power_of (network_of t) flows factors x y
  power_at x y i j =
      rw e (power-table (network_of t) flows factors ok.regions.1 x y i j)

  pub searched : (x : ℕ) → x < t.regions → Searched powers t.regions bound x 0
  searched x h = record {
    regions = ok.regions.1;
    linked = λ x y i j. rw (power_at x y i j) (linked t ok flows factors links x y i j);
    small = rw b (fine-size (source caps t) 10000000 (source-small t ok caps));
    here = h;
    few = omega arith;
  }

  pub search_is : (hits : List Bool) (x : ℕ) → x < t.regions
      → limit_of caps (λ x y. get_or powers (8 * x + y) 0) (own hits bound) t.regions x ≡ limit_by caps t flows factors (λ y. get_or hits y false) x
  search_is hits x h = limit-same caps _ _ _ _ t.regions power_at (λ y i. rw b) x h

-- ---- every region's bound
module _ (caps : Bool) (t : Terms) (ok : TermsOk t) (flows : List ℤ) (factors : List ℕ) where
  pub all-open : LinksOk t flows factors → (hits : List Bool) → hits ≡ replicate 8 false → replicate 8 None ≡ bounds_of caps t hits flows factors
  unfolding run in_cents
  all-open links hits none = tabulate-same 8 _ _ (λ k h. go k (ltb k t.regions) refl)
    where
      test : ℕ → Bool
      test x = get_or hits x false

      go : (k : ℕ) (b : Bool) → ltb k t.regions ≡ b → None ≡ pick b (in_cents (limit_by caps t flows factors test k)) None
      go k true e = rw (unbound t ok flows factors links test k (ltb-true k t.regions e) caps (λ y i. rw none (get_or-replicate 8 y false false (omega (arith, ok.regions.1)))))
      go k false e = refl

  -- what the code reads of them
  pub read_is : (marks : List ℕ) (o : Offer) (r : ℕ) → r < t.regions → {hits : List Bool} {all : List (Option ℤ)} → hits ≡ sources caps t marks o → all ≡ bounds_of caps t hits flows factors
      → get_or all r None ≡ limit caps t marks (record { offer = o; flows = flows; factors = factors }) r
  unfolding limit
  read_is marks o r h e q =
      rw (q, e)
      (get_or-tabulate _ 8 r None (omega (arith, ok.regions.1))
      ∙ rw (lt-ltb r t.regions h) (ap in_cents (limit-by caps t flows factors (λ x. get_or (sources caps t marks o) x false) (has_limit caps t marks o) source-at r h)))
    where
      source-at : (x : ℕ) → x < t.regions → get_or (sources caps t marks o) x false ≡ has_limit caps t marks o x
      source-at x i = get_or-tabulate _ 8 x false (omega (arith, ok.regions.1)) ∙ rw (lt-ltb x t.regions i)
