-- One more record of a roster, and those after it.
-- `then_records`: what they give. `refused_ends`: where it is refused they end. `updated_goes_on`: where it went in come
-- those after it. `stays_sound`: an insert into a sound table leaves it sound.
use mathlib.Core.List.{List, [], ◌∷◌}
use mathlib.Core.Path.{◌≡◌, refl, sym, ap, ◌∙◌}
use Prim.Native.Nat.{ℕ, suc}
use Rattle.types.specs.declared.Limits.{Limits}
use Rattle.types.specs.Answers.{Answer, updated, refused}
use Rattle.types.specs.RosterReplies as reply
use Rattle.labels.specs.Labels.{Label}
use Rattle.labels.proofs.Clashes.{clash}
use Rattle.trees.specs.Plain.{insert}
use Rattle.tables.specs.Written.{Memory, lent}
use Rattle.tables.specs.Outcomes.{insert_outcome, update_outcome}
use Rattle.tables.specs.Given.{Gives}
use Rattle.tables.specs.Claims.{Sound}
use Rattle.tables.specs.MapClaims.{Said, said, accepted, refused_by}
use Rattle.endings.specs.Ready.{InsertsReady}
use Rattle.files.specs.FileReads.{EntryRead, no_entry, entry}
use Rattle.rfc4180.specs.Records.{record_then, records_of}
use Rattle.rfc4180.specs.Rosters.{RosterOutcome, stopped_at, roster_from, TakesRoster}
use Rattle.demands.proofs.Refusals.{refused_leaves}
use Rattle.demands.proofs.SoundAfter.{sound_stays}
use Rattle.rosters.specs.Inserted.{record_outcome}

-- what one more record gives, then those after it
abbrev pub then_records : Limits → (count : ℕ) → EntryRead → Memory → RosterOutcome
then_records limits count e m = roster_from limits count (record_then e (λ rest. records_of rest)) m

module _ (limits : Limits) (m : Memory) (count : ℕ) where
  -- A record that is refused ends them: the memory is what it was.
  pub refused_ends : (e : EntryRead) (number : ℕ) (words bytes : List ℕ)
      → Gives (record_outcome limits e m) (refused number) words bytes
      → TakesRoster (then_records limits count e m) (reply.refused (suc count) number) words bytes
  unfolding roster_from insert_outcome
  refused_ends no_entry number words bytes gives =
      let same : number ≡ 13 = cc in
      rw same (record { answer = refl; table = gives.table; store = gives.store })
  refused_ends (entry x value rest) number words bytes gives =
      by_said (said (insert_outcome limits m.table m.store x value).answer) refl
    where
      is_refused : said (insert_outcome limits m.table m.store x value).answer ≡ refused_by number
      is_refused = ap said (sym gives.answer)

      stays : (insert_outcome limits m.table m.store x value).memory ≡ m
      stays = refused_leaves limits m.table m.store number (insert x value) is_refused

      by_said : (s : Said) → said (insert_outcome limits m.table m.store x value).answer ≡ s
          → TakesRoster
          (elim s [
            | accepted ↦ roster_from limits (suc count) (records_of rest)
                (insert_outcome limits m.table m.store x value).memory
            | refused_by why ↦ stopped_at (suc count) why m
          ])
          (reply.refused (suc count) number) words bytes
      by_said accepted is = clash cc
      by_said (refused_by why) is =
          let same : number ≡ why = cc in
          record {
            answer = ap (λ (n : ℕ). reply.refused (suc count) n) same;
            table = gives.table ∙ ap (λ (m : Memory). m.table) stays;
            store = gives.store ∙ ap (λ (m : Memory). m.store) stays;
          }

  -- After a record that went in come those after it.
  pub updated_goes_on : (x : Label) (value : ℕ) (rest : List ℕ) (slot visits places : ℕ) (words bytes : List ℕ)
      → Gives (insert_outcome limits m.table m.store x value) (updated slot visits places) words bytes
      → then_records limits count (entry x value rest) m
      ≡ roster_from limits (suc count) (records_of rest) (lent words bytes)
  unfolding roster_from
  updated_goes_on x value rest slot visits places words bytes gives =
      by_said (said (insert_outcome limits m.table m.store x value).answer) refl
    where
      after : lent words bytes ≡ (insert_outcome limits m.table m.store x value).memory
      after = λ i. record { table = gives.table i; store = gives.store i }

      by_said : (s : Said) → said (insert_outcome limits m.table m.store x value).answer ≡ s
          → elim s [
            | accepted ↦ roster_from limits (suc count) (records_of rest)
                (insert_outcome limits m.table m.store x value).memory
            | refused_by why ↦ stopped_at (suc count) why m
          ]
          ≡ roster_from limits (suc count) (records_of rest) (lent words bytes)
      by_said accepted is = ap (roster_from limits (suc count) (records_of rest)) (sym after)
      by_said (refused_by why) is =
          let none : said (updated slot visits places) ≡ refused_by why = ap said gives.answer ∙ is in
          clash cc

-- An insert into a sound table leaves it sound.
pub stays_sound : (limits : Limits) (table store : List ℕ) → InsertsReady limits table store → (x : Label) (value : ℕ)
    (answer : Answer) (words bytes : List ℕ) → Gives (insert_outcome limits table store x value) answer words bytes
    → Sound limits (lent words bytes)
unfolding insert_outcome
stays_sound limits table store ready x value answer words bytes gives =
    let after : lent words bytes ≡ (update_outcome limits (insert x value) table store).memory =
    λ i. record { table = gives.table i; store = gives.store i } in
    rw after
    (sound_stays limits ready.limits_fit.deepest (insert x value ∷ []) (lent table store) ready.sound)
