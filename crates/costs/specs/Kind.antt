-- What a cost kind is: operations on costs, and the laws that they keep. Assumes nothing.
use Rattle.std.specs.Prelude.{◌≡◌, ℕ, Bool, true, false, ◌⊎◌}

-- The operations of a cost kind, over whatever its costs are.
pub record Costs (V : Type 0) : Type 0 where
  -- what a route without lines costs
  pub start : V
  -- what stands for no route
  pub none : V
  -- the order, as a test
  pub at_most : V → V → Bool
  -- the cost of one after another, written + in the comments below
  pub join : V → V → V
  -- the cost of a fee and a loss
  pub of_price : (fee loss : ℕ) → V

-- a is at most b.
abbrev pub AtMost : {V : Type 0} → Costs V → V → V → Type 0
AtMost K a b = K.at_most a b ≡ true

-- a is strictly below b: b is not at most a.
abbrev pub Below : {V : Type 0} → Costs V → V → V → Type 0
Below K a b = K.at_most b a ≡ false

-- What holds of every cost kind. Nothing else is known of costs.
pub record Laws {V : Type 0} (K : Costs V) : Type 0 where
  -- the order is total: of two costs one is at most the other, and two that each are at most the other are the same
  pub total : (a b : V) → AtMost K a b ⊎ AtMost K b a
  pub antisym : (a b : V) → AtMost K a b → AtMost K b a → a ≡ b
  pub trans : (a b c : V) → AtMost K a b → AtMost K b c → AtMost K a c
  -- (a + b) + c = a + (b + c), and a + b = b + a
  pub assoc : (a b c : V) → K.join (K.join a b) c ≡ K.join a (K.join b c)
  pub comm : (a b : V) → K.join a b ≡ K.join b a
  -- start + a = a, and none + a = none
  pub start_join : (a : V) → K.join K.start a ≡ a
  pub none_join : (a : V) → K.join K.none a ≡ K.none
  -- if a is at most b, a + c is at most b + c
  pub monotone : (a b c : V) → AtMost K a b → AtMost K (K.join a c) (K.join b c)
  -- a is at most a + c, and at most none
  pub grows : (a c : V) → AtMost K a (K.join a c)
  pub none_greatest : (a : V) → AtMost K a K.none
  pub start_not_none : K.start ≡ K.none → ⊥
