-- What the reader of a value gives, as a number if there is one.
use Rattle.std.specs.Prelude.{List, ◌&&◌, cond, ℕ, leb, Option, Some, None}
use Rattle.decimals.specs.Decimals.{all_digits, decimal_after, is_value}

-- the value that a text writes, if it writes one
unfoldable pub value_of : List ℕ → Option ℕ
value_of text = cond (is_value text) (Some (decimal_after 0 text)) None

-- the number that digits write, after those that write n, if they are digits and it is at most 65535
unfoldable pub value_after : ℕ → List ℕ → Option ℕ
value_after n text = cond (all_digits text && leb (decimal_after n text) 65535) (Some (decimal_after n text)) None
