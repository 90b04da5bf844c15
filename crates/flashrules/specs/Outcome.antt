-- What a call answers and leaves. A contract equates all of it with a definition, so that no field
-- of an answer is left free.

-- the whole answer, and what was lent to be written into, after the call
pub record Outcome (A B : Type 0) : Type 0 where
  pub answer : A
  pub lent : B

module _ {A B : Type 0} where
  unfoldable pub outcome : A → B → Outcome A B
  outcome a lent = record { answer = a; lent = lent }
