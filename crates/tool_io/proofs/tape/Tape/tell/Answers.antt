use Rattle.std.proofs.Common.{length, arith, ap, refl}
use Rattle.std.proofs.lemmas.List.{length-append}
use Rattle.tool_io.specs.declared.host.Place.TheVariants.{Out, Err}
use Rattle.tool_io.specs.TapeInside.{events_of}
use Rattle.tool_io.proofs.LogLaws.{given-append}
use Rattle.tool_io.proofs.TapeLemmas.{Room, room_of, length-given, length-given-event, bytes_in-events_of, events_of-append, bytes_of-append}
use Rattle.tool_io.proofs.tape.Tape.tell.Goals as goal

pub push_mark-requires : goal.push_mark-requires
push_mark-requires c =
    let room : Room c.self.inside (length c.args.piece.now) = room_of _ _ _ c.self.view_is c.self.invariant c.requires in omega arith

pub append-requires : goal.append-requires
append-requires c =
    let room : Room c.self.inside (length c.args.piece.now) = room_of _ _ _ c.self.view_is c.self.invariant c.requires in omega arith

pub append-requires-2 : goal.append-requires-2
append-requires-2 c =
    let room : Room c.self.inside (length c.args.piece.now) = room_of _ _ _ c.self.view_is c.self.invariant c.requires in
    omega (
      arith,
      ap length c.self.invariant.out,
      length-given Out (events_of c.self.inside.marks.items c.self.inside.bytes.items),
      bytes_in-events_of _ _ c.self.invariant.covered,
      ap length c.given_by.ensures,
      length-given-event Out c.args.deed c.args.place c.args.piece.now,
    )

pub append-requires-3 : goal.append-requires-3
append-requires-3 c =
    let room : Room c.self.inside (length c.args.piece.now) = room_of _ _ _ c.self.view_is c.self.invariant c.requires in
    omega (
      arith,
      ap length c.self.invariant.err,
      length-given Err (events_of c.self.inside.marks.items c.self.inside.bytes.items),
      bytes_in-events_of _ _ c.self.invariant.covered,
      ap length c.given_by-2.ensures,
      length-given-event Err c.args.deed c.args.place c.args.piece.now,
    )

pub invariant_of-self : goal.invariant_of-self
invariant_of-self c =
    let room : Room c.self.inside (length c.args.piece.now) = room_of _ _ _ c.self.view_is c.self.invariant c.requires in
    let more = events_of-append c.self.inside.marks.items c.self.inside.bytes.items (record { deed = c.args.deed; place = c.args.place; len = length c.args.piece.now }) c.args.piece.now c.self.invariant.covered refl in
    record {
      covered = rw (c.push_mark.ensures.items, c.append.ensures.items, bytes_of-append, length-append) (omega (arith, c.self.invariant.covered));
      out = rw (c.push_mark.ensures.items, c.append.ensures.items, c.append-2.ensures.items, more, given-append, c.self.invariant.out, c.given_by.ensures);
      err = rw (c.push_mark.ensures.items, c.append.ensures.items, c.append-3.ensures.items, more, given-append, c.self.invariant.err, c.given_by-2.ensures);
      within = rw (c.append.ensures.items, length-append) (omega arith);
      marks_room = omega arith;
      bytes_room = omega arith;
      out_room = omega arith;
      err_room = omega arith;
    }

pub returns : goal.returns
returns c =
    let more = events_of-append c.self.inside.marks.items c.self.inside.bytes.items (record { deed = c.args.deed; place = c.args.place; len = length c.args.piece.now }) c.args.piece.now c.self.invariant.covered refl in
    rw (← c.self.view_is) (rw (c.push_mark.ensures.items, c.append.ensures.items, more) refl)
