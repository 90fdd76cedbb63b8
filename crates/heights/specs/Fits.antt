-- What the test of a node over its sons takes for granted: its nodes can be counted.
use Rattle.std.specs.Prelude.{ℕ, ◌+◌, ◌^◌, ◌≤◌, Option, Some, None}
use Rattle.heights.specs.declared.Subtree.{Subtree}

-- a subtree at most n nodes deep has a height of at most n, and fewer than 2 ^ n nodes
abbrev pub Small : ℕ → Option Subtree → Type 0
Small n None = Unit {0}
Small n (Some s) = (s.height ≤ n) × (s.count + 1 ≤ 2 ^ n)

-- two sons whose nodes can be counted together
pub record SonsFit (left right : Subtree) : Type 0 where
  pub left_low : left.height ≤ 63
  pub left_counted : left.count + 1 ≤ 2 ^ 63
  pub right_low : right.height ≤ 63
  pub right_counted : right.count + 1 ≤ 2 ^ 63
