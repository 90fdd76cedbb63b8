-- Sizes: 'What the hub holds' and 'Words and bytes lent' of document 01, and M-101 of document 02, the pairing page.
use Rattle.std.specs.Prelude.{◌≡◌, ℕ, ◌+◌, ◌*◌}
use Rattle.types.specs.declared.Limits.{Limits}

-- "A label is 1 to 64 bytes .. The table holds at most 512 labels"; "it would be the 13th node".
-- Every other definition takes its sizes as a parameter.
abbrev pub hub : Limits
hub = record { slots = 512; width = 64; depth = 12 }

-- "It holds 32 labels of at most 20 bytes"; "its seventh node breaks a walk"
abbrev pub page : Limits
page = record { slots = 32; width = 20; depth = 6 }

-- "The table is 4,100 words": four, and eight for each slot
abbrev pub table_length : Limits → ℕ
table_length limits = 4 + 8 * limits.slots

-- "The label store is 32,768 bytes, 64 for each slot"
abbrev pub store_length : Limits → ℕ
store_length limits = limits.slots * limits.width

-- The claim, for the hub's 4,100 words and 32,768 bytes and for the page's "260 words and 640 bytes": so many are lent.
pub record Lends (limits : Limits) (words bytes : ℕ) : Type 0 where
  pub words_lent : table_length limits ≡ words
  pub bytes_lent : store_length limits ≡ bytes
