-- What stays of a source or sink from one request to the next.
-- a relation that each value has to itself, and that goes on from step to step
pub record Steady {X : Type 0} (keeps : X → X → Type 0) : Type 0 where
  pub same : (s : X) → keeps s s
  pub on : (s t u : X) → keeps s t → keeps t u → keeps s u
