use Rattle.std.proofs.Common.{arith}
use Rattle.words.proofs.Fills.{filled_by_none, filled_length}
use Rattle.saves.proofs.SavedLaws.{entries_at_depth, entries_at_none, entries_above}
use Rattle.saves.proofs.CountLaws.{parts_counted}
use Rattle.saves.proofs.WriteLaws.{written_node}
use Rattle.saves.proofs.+write_from.Goals as goal

pub returns-then-remaining-eq0 : goal.returns-then-remaining-eq0
returns-then-remaining-eq0 t c = search (filled_by_none, entries_at_depth)

pub returns-then-link-eq0 : goal.returns-then-link-eq0
returns-then-link-eq0 t c = search (filled_by_none, entries_at_none)

pub returns-then-limits-link : goal.returns-then-limits-link
returns-then-limits-link t c = search (filled_by_none, entries_above)

pub write_from-middle-requires : goal.write_from-middle-requires
write_from-middle-requires t c =
    let fits = c.requires in
    let counts =
    parts_counted c.args.limits c.args.table.now c.args.store.now c.args.remaining c.args.link c.read_row-row.result
    c.if-remaining-eq0.false c.if-link-eq0.false c.if-limits-link.false c.read_row-row.ensures in (
      omega (arith, c.decreases),
      record { fit = fits.fit; words = fits.words; room = omega (arith, counts, fits.room) },
    )

pub put_slot-next-requires-clause-has_room : goal.put_slot-next-requires-clause-has_room
put_slot-next-requires-clause-has_room t c =
    let fits = c.requires in
    let counts =
    parts_counted c.args.limits c.args.table.now c.args.store.now c.args.remaining c.args.link c.read_row-row.result
    c.if-remaining-eq0.false c.if-link-eq0.false c.if-limits-link.false c.read_row-row.ensures in
    let begun = c.write_from-middle.ensures in
    omega (arith, counts, fits.room, begun.end, filled_length begun)

pub write_from-requires : goal.write_from-requires
write_from-requires t c =
    let fits = c.requires in
    let counts =
    parts_counted c.args.limits c.args.table.now c.args.store.now c.args.remaining c.args.link c.read_row-row.result
    c.if-remaining-eq0.false c.if-link-eq0.false c.if-limits-link.false c.read_row-row.ensures in
    let begun = c.write_from-middle.ensures in
    let gone_on = c.put_slot-next.ensures in (
      omega (arith, c.decreases, c.if-remaining-eq0.false),
      record {
        fit = fits.fit;
        words = fits.words;
        room =
            omega (
              arith,
              counts,
              fits.room,
              begun.end,
              gone_on.end,
              filled_length begun,
              filled_length gone_on,
            );
      },
    )

pub returns : goal.returns
returns t c =
    written_node _ _ _ _ _ _ c.if-remaining-eq0.false c.if-link-eq0.false c.if-limits-link.false
    c.read_row-row.ensures _ _ _ _ _ _ _ _ c.write_from-middle.ensures c.put_slot-next.ensures c.write_from.ensures
