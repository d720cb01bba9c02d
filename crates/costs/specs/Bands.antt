-- What a banding is: levels of costs, and heavy and light ones, and the laws that they keep. Assumes nothing.
use Rattle.std.specs.Prelude.{◌≡◌, ℕ, ◌/◌, ◌<◌, ◌≤◌, Bool, true, false, cond, Some, None, Option, ◌==◌, ◌≢◌, nat_lt}
use Rattle.nets.specs.declared.refusal.Refusal.{Refusal}
use Rattle.nets.specs.declared.refusal.Refusal.TheVariants.{WidthZero}
use Rattle.costs.specs.declared.amount.Amount.{Amount}
use Rattle.costs.specs.Kind.{Costs, AtMost}

-- A level for each cost (that of none is never used), and which costs are heavy; the others are light.
pub record Bands (V : Type 0) : Type 0 where
  pub level : V → ℕ
  pub heavy : V → Bool

-- What holds of every banding of a cost kind.
pub record BandLaws {V : Type 0} (K : Costs V) (B : Bands V) : Type 0 where
  -- if a is at most b and neither is none, the level of a is at most that of b
  pub monotone : (a b : V) → AtMost K a b → (a ≢ K.none) → (b ≢ K.none) → B.level a ≤ B.level b
  -- if w is heavy and a + w is not none, the level of a + w is greater than that of a
  pub heavy_raises : (a w : V) → B.heavy w ≡ true → (K.join a w ≢ K.none) → B.level a < B.level (K.join a w)

-- Whole, over every kind: the one level 0, and only light costs.
abbrev pub whole_bands : {V : Type 0} → Bands V
whole_bands = record { level = λ a. 0; heavy = λ a. false }

-- Width d, over fees: the whole quotient by d is the level, and just the costs above d are heavy.
abbrev pub width_bands : ℕ → Bands Amount
width_bands d = record { level = λ a. a.number / d; heavy = λ a. nat_lt d a.number }

-- The making of a width is refused at 0.
abbrev pub width_refusal : ℕ → Option Refusal
width_refusal d = cond (d == 0) (Some WidthZero) None
