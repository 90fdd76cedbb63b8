-- The tests of a definition, from the facts of the branches that led to a return:
-- `search branches` under `unfolding` of the definition.
use mathlib.Core.Path.{refl}
use native.Mathlib.Omega.{arith}
use borrow.Author.Tests.{lt-ltb, le-ltb, le-leb, lt-leb, eq-eqb, ne_eqb}

pub ruleset branches = (refl, lt-ltb, le-ltb, le-leb, lt-leb, eq-eqb, ne_eqb, arith)
