-- Lists that have a last place for the additional link where there is the link. Assumes nothing.
use mathlib.Core.Path.{◌≡◌, refl, sym, ap, ◌∙◌}
use mathlib.Core.Bool.{Bool, true, false}
use mathlib.Core.List.{List, [], ◌∷◌, ◌++◌, append-nil}
use mathlib.Core.Logic.{⊎_elim}
use Prim.Native.Nat.{ℕ, suc, ◌+◌, ◌-◌, ◌<◌, ◌≤◌}
use native.Mathlib.Omega.{arith}
use lib.ListN.{length, get_or, set, drop, drop_of_length-le, length-append, get_or-eq_default}
use lib.Seq.{drop-cons, set_at}
use Rattle.laws.specs.Base.{pick}
use Rattle.laws.specs.Lists.{tabulate}
use Rattle.laws.proofs.Lists.{length_run, get_or-tabulate, tabulate-next}
use Rattle.laws.proofs.Tests.{by-test, lt-or-ge}
use Rattle.laws.proofs.Joined.{tabulate-list, at_left, at_right}

-- there is a last place exactly where there is the link
pub last-there : (linked : Bool) (R n : ℕ) → n ≡ pick linked (R + 1) R → linked ≡ true → R < n
last-there linked R n e l = omega (arith, e, link linked l)
  where
    link : (linked : Bool) → linked ≡ true → pick linked (R + 1) R ≡ R + 1
    link linked l = rw l refl

module _ {A : Type 0} (f : ℕ → A) (R : ℕ) (x : A) where
  pub last-length : (linked : Bool) → length (tabulate R f ++ pick linked (x ∷ []) []) ≡ pick linked (R + 1) R
  last-length true = length-append (tabulate R f) (x ∷ []) ∙ ap (λ (n : ℕ). n + 1) (length_run f R 0)
  last-length false = length-append (tabulate R f) [] ∙ omega (arith, length_run f R 0)

  -- the regions' places, and the last
  pub last-region : (linked : Bool) (r : ℕ) (d : A) → r < R → get_or (tabulate R f ++ pick linked (x ∷ []) []) r d ≡ f r
  last-region linked r d h = at_left (tabulate R f) (pick linked (x ∷ []) []) R r d (length_run f R 0) h ∙ get_or-tabulate f R r d h

  pub last-link : (linked : Bool) (d : A) → linked ≡ true → get_or (tabulate R f ++ pick linked (x ∷ []) []) R d ≡ x
  last-link linked d l =
      rw l (at_right (tabulate R f) (x ∷ []) R R d (length_run f R 0) (omega arith) ∙ zero-at)
    where
      zero-at : get_or (x ∷ []) (R - R) d ≡ x
      zero-at = let z : R - R ≡ 0 = omega arith in rw z refl

  -- what is stored after the regions, over a list of that length
  pub last_done : (linked : Bool) (d l m : List A) → length d ≡ pick linked (R + 1) R → l ≡ tabulate R f ++ drop R d → m ≡ pick linked (set l R x) l
      → m ≡ tabulate R f ++ pick linked (x ∷ []) []
  last_done true d l m h e g =
      let k : length d ≤ suc R = omega (arith, h) in
      let n : drop (suc R) d ≡ [] = drop_of_length-le d k in
      rw (g, e, drop-cons d R x (omega (arith, h)), set_at (tabulate R f) (get_or d R x) (drop (suc R) d) x R (length_run f R 0), n)
  last_done false d l m h e g = let k : length d ≤ R = omega (arith, h) in rw (g, e, drop_of_length-le d k)

-- what holds of every region's, of the last and of the default holds at every place
pub last-all : {A : Type 0} (P : A → Type 0) (linked : Bool) (f : ℕ → A) (R : ℕ) (x d : A) → P d → ((r : ℕ) → r < R → P (f r)) → (linked ≡ true → P x)
    → (r : ℕ) → P (get_or (tabulate R f ++ pick linked (x ∷ []) []) r d)
last-all P linked f R x d z h k r =
    ⊎_elim (λ (l : r < R). rw (last-region f R x linked r d l) (h r l)) (λ (l : R ≤ r). by-test linked
    (λ t. ⊎_elim (λ (m : r < R + 1). let e : r ≡ R = omega arith in rw (e, last-link f R x linked d t) (k t))
    (λ (m : R + 1 ≤ r). past (omega (arith, last-length f R x linked, most t))) (lt-or-ge r (R + 1)))
    (λ t. past (omega (arith, last-length f R x linked, least t)))) (lt-or-ge r R)
  where
    most : linked ≡ true → pick linked (R + 1) R ≡ R + 1
    most t = rw t refl

    least : linked ≡ false → pick linked (R + 1) R ≡ R
    least t = rw t refl

    past : length (tabulate R f ++ pick linked (x ∷ []) []) ≤ r → P (get_or (tabulate R f ++ pick linked (x ∷ []) []) r d)
    past q = rw (get_or-eq_default (tabulate R f ++ pick linked (x ∷ []) []) d {n = r} q) z

pub last-same : {A : Type 0} (linked : Bool) (x y : A) → (linked ≡ true → x ≡ y) → pick linked (x ∷ []) [] ≡ pick linked (y ∷ []) []
last-same {A = A} true x y e = ap (λ (z : A). z ∷ []) (e refl)
last-same {A = A} false x y e = refl

-- a list is the table of its elements, the last apart
pub last-list : {A : Type 0} (linked : Bool) (d : A) (l : List A) (R : ℕ) → length l ≡ pick linked (R + 1) R
    → tabulate R (λ r. get_or l r d) ++ pick linked (get_or l R d ∷ []) [] ≡ l
last-list true d l R e = sym (tabulate-next (λ r. get_or l r d) R) ∙ tabulate-list d l (R + 1) e
last-list false d l R e = append-nil (tabulate R (λ r. get_or l r d)) ∙ tabulate-list d l R e
