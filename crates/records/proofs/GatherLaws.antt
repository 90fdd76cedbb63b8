-- A content gathered byte by byte from a part in which quotes stand doubled.
--     Gathering        the front of the buffer, and what is left of the part, are the content
--     gather_begins, gather_goes_on    so it is at first, and after one byte more
--     gather_room      there is room for that byte
--     gather_ends, gather_full    with nothing left, or no room, the front of the buffer is the content
use Rattle.std.proofs.Common.{◌≡◌, refl, sym, ap, ◌∙◌, Bool, true, false, cond, List, [], ◌∷◌, ◌++◌, ℕ, ◌+◌, ◌≤◌, ◌<◌}
use Rattle.std.proofs.Common.{length, get_or, take, set, eqb, arith, length-append, append_assoc, append-nil, add-one}
use Rattle.std.proofs.lemmas.List.{nil_from_length}
use lib.ListN.{length-set}
use lib.Seq.{take-suc-set, length-take-le}
use Rattle.rfc4180.specs.Grammar.{dquote}
use Rattle.records.specs.Undoubled.{undoubled, after_first}

-- the two sides of the test on a first byte
first_by : (byte next : ℕ) (more : List ℕ) (quote : Bool)
    → ◌≡◌ {A = List ℕ} (byte ∷ elim quote [ true ↦ undoubled more | false ↦ undoubled (next ∷ more) ])
    (byte ∷ undoubled (cond quote more (next ∷ more)))
first_by byte next more true = refl
first_by byte next more false = refl

-- after its first byte, a content is that of what is left
content_first : (rest : List ℕ) → 1 ≤ length rest → undoubled rest ≡ get_or rest 0 0 ∷ undoubled (after_first rest)
unfolding undoubled
content_first [] some = absurd (omega arith)
content_first (byte ∷ []) some = refl
content_first (byte ∷ next ∷ more) some = first_by byte next more (eqb byte dquote)

-- the front of the buffer, and what is left of the part, are the content
pub record Gathering (part : List ℕ) (room : ℕ) (buffer rest : List ℕ) (to : ℕ) : Type 0 where
  pub written : to ≤ length buffer
  pub kept : length buffer ≡ room
  pub gathered : take to buffer ++ undoubled rest ≡ undoubled part

-- so it is at first
pub gather_begins : (part buffer : List ℕ) → Gathering part (length buffer) buffer part 0
gather_begins part buffer = record { written = omega arith; kept = refl; gathered = refl }

module _ (part : List ℕ) (room : ℕ) (buffer rest : List ℕ) (to : ℕ) (so_far : Gathering part room buffer rest to) where
  -- what is written, and what is left, are as long as the content
  lengths : to + length (undoubled rest) ≡ length (undoubled part)
  lengths = rw (length-append, length-take-le to buffer so_far.written) at (ap length so_far.gathered)

  module _ (some : 1 ≤ length rest) (enough : length (undoubled part) ≤ room) where
    -- there is room for the next byte
    pub gather_room : to < length buffer
    gather_room = omega (arith, lengths, ap length (content_first rest some), so_far.kept)

    -- and after one byte more
    pub gather_goes_on : (next : List ℕ) → next ≡ after_first rest
        → Gathering part room (set buffer to (get_or rest 0 0)) next (to + 1)
    gather_goes_on next is =
        record {
          written = rw length-set (omega (arith, gather_room));
          kept = length-set buffer to (get_or rest 0 0) ∙ so_far.kept;
          gathered = rw (add-one, take-suc-set buffer to _ gather_room, append_assoc, is)
              (ap (λ (l : List ℕ). take to buffer ++ l) (sym (content_first rest some)) ∙ so_far.gathered);
        }

-- with nothing left the front of the buffer is the content
pub gather_ends : (part : List ℕ) (room : ℕ) (buffer rest : List ℕ) (to : ℕ) → Gathering part room buffer rest to
    → length rest < 1 → take (length (undoubled part)) buffer ≡ undoubled part
unfolding undoubled
gather_ends part room buffer [] to so_far past = rw long whole
  where
    whole : take to buffer ≡ undoubled part
    whole = sym (append-nil (take to buffer)) ∙ so_far.gathered

    long : length (undoubled part) ≡ to
    long = sym (ap length whole) ∙ length-take-le to buffer so_far.written
gather_ends part room buffer (byte ∷ more) to so_far past = absurd (omega arith)

-- and so it is where no room is left
pub gather_full : (part : List ℕ) (room : ℕ) (buffer rest : List ℕ) (to : ℕ) → Gathering part room buffer rest to
    → length (undoubled part) ≤ room → length buffer ≤ to → take (length (undoubled part)) buffer ≡ undoubled part
gather_full part room buffer rest to so_far enough full = rw long whole
  where
    nothing : undoubled rest ≡ []
    nothing = nil_from_length (undoubled rest) (omega (arith, lengths part room buffer rest to so_far, so_far.kept))

    whole : take to buffer ≡ undoubled part
    whole =
        sym (append-nil (take to buffer))
        ∙ ap (λ (l : List ℕ). take to buffer ++ l) (sym nothing)
        ∙ so_far.gathered

    long : length (undoubled part) ≡ to
    long = sym (ap length whole) ∙ length-take-le to buffer so_far.written

-- what `gather` needs
pub ruleset gather_laws = (gather_begins, gather_goes_on, gather_ends, gather_full)
