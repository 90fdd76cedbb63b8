-- The lengths lent, by the sizes of each index.
-- hub_lends: 4,100 words and 32,768 bytes. page_lends: 260 words and 640 bytes.
use mathlib.Core.Path.{refl}
use Rattle.types.specs.Sizes.{hub, page, Lends}

pub hub_lends : Lends hub 4100 32768
hub_lends = record { words_lent = refl; bytes_lent = refl }

pub page_lends : Lends page 260 640
page_lends = record { words_lent = refl; bytes_lent = refl }
