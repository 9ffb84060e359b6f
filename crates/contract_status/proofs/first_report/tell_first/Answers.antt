use Rattle.std.proofs.Common.{◌≡◌, ◌+◌, ◌<◌, ◌∙◌, Some, ap, length, refl, arith, subst, sym}
use Rattle.std.proofs.lemmas.Option.{slice_get_within}
use Rattle.mltl_base.specs.declared.program.Program.{Program}
use Rattle.contract_status.specs.declared.engines.Stretch.{Stretch}
use Rattle.contract_status.proofs.Moving.{cursor_after, fewer_left, gives_none, goes_past, known_before, same_stretch, taken_by, told_by}
use Rattle.contract_status.proofs.Placing.{readable}
use Rattle.contract_status.proofs.first_report.tell_first.Goals as goal

pub next_open-requires-clause-readable : goal.next_open-requires-clause-readable
next_open-requires-clause-readable g c = rw c.program-program.ensures.program (λ k output there.
    let program = c.args.checked.now in let engines = c.args.engines.now in let next_times = c.args.next_times.now in let stands = c.requires.stands in
    readable program stands.0 engines next_times k output c.program-program.ensures.well_formed (taken_by program stands.0 engines next_times stands.1) stands.1.placed there)

pub returns-in-None-clause-gives : goal.returns-in-None-clause-gives
returns-in-None-clause-gives g c =
    let program = c.args.checked.now in let engines = c.args.engines.now in let next_times = c.args.next_times.now in
    let finds = rw c.program-program.ensures.program at c.in-None.ensures.finds in
    record {
      first = λ rows stands. gives_none c.args.style program rows next_times (finds rows (taken_by program rows engines next_times stands) stands.placed.known);
      placed = λ rows stands. stands.placed;
      none = λ none. refl;
      given = tt;
    }

pub returns-in-None-clause-cursor : goal.returns-in-None-clause-cursor
returns-in-None-clause-cursor g c =
    let finds = rw c.program-program.ensures.program at c.in-None.ensures.finds in
    let outs : c.len-cursor.result ≡ length c.args.checked.now.outs = c.len-cursor.ensures ∙ ap (λ (program : Program). length program.outs) c.program-program.ensures.program in
    λ rows taken known. record { told = rw outs (finds rows taken known); kept = λ stretch kept. let found = c.in-None.ensures.goes_on stretch kept in absurd cc }

pub offset_bounds-next_times-k : goal.offset_bounds-next_times-k
offset_bounds-next_times-k g c =
    let program = c.args.checked.now in let engines = c.args.engines.now in let next_times = c.args.next_times.now in let stands = c.requires.stands in
    let finds = rw c.program-program.ensures.program at c.in-Some.ensures.finds in
    let first = finds stands.0 (taken_by program stands.0 engines next_times stands.1) stands.1.placed.known in
    record { fits = omega (arith, c.program-program.ensures.layout.few_outs, slice_get_within program.outs c.in-Some.k first.output first.there) }

pub bounds-next_times-k : goal.bounds-next_times-k
bounds-next_times-k g c =
    let program = c.args.checked.now in let engines = c.args.engines.now in let next_times = c.args.next_times.now in let stands = c.requires.stands in
    let finds = rw c.program-program.ensures.program at c.in-Some.ensures.finds in
    let first = finds stands.0 (taken_by program stands.0 engines next_times stands.1) stands.1.placed.known in
    omega (arith, stands.1.placed.count, slice_get_within program.outs c.in-Some.k first.output first.there)

pub overflow_add-next_times : goal.overflow_add-next_times
overflow_add-next_times g c =
    let stands = c.requires.stands in
    let finds = rw c.program-program.ensures.program at c.in-Some.ensures.finds in
    let told = told_by c.args.style c.args.checked.now stands.0 c.args.engines.now c.args.next_times.now c.in-Some.k c.last_covered-time.result c.in-Some.stretch stands.1 finds c.last_covered-time.ensures.covers in
    record { fits = omega (arith, told.early, stands.1.count, c.requires.early) }

pub offset_bounds-next_times-k-in-Some : goal.offset_bounds-next_times-k-in-Some
offset_bounds-next_times-k-in-Some g c =
    let stands = c.requires.stands in
    let finds = rw c.program-program.ensures.program at c.in-Some.ensures.finds in
    let told = told_by c.args.style c.args.checked.now stands.0 c.args.engines.now c.args.next_times.now c.in-Some.k c.last_covered-time.result c.in-Some.stretch stands.1 finds c.last_covered-time.ensures.covers in
    record { fits = omega (arith, c.program-program.ensures.layout.few_outs, told.exists) }

pub bounds-next_times-k-in-Some : goal.bounds-next_times-k-in-Some
bounds-next_times-k-in-Some g c =
    let stands = c.requires.stands in
    let finds = rw c.program-program.ensures.program at c.in-Some.ensures.finds in
    let told = told_by c.args.style c.args.checked.now stands.0 c.args.engines.now c.args.next_times.now c.in-Some.k c.last_covered-time.result c.in-Some.stretch stands.1 finds c.last_covered-time.ensures.covers in
    told.inside

pub overflow_cast-result : goal.overflow_cast-result
overflow_cast-result g c =
    let stands = c.requires.stands in
    let finds = rw c.program-program.ensures.program at c.in-Some.ensures.finds in
    let told = told_by c.args.style c.args.checked.now stands.0 c.args.engines.now c.args.next_times.now c.in-Some.k c.last_covered-time.result c.in-Some.stretch stands.1 finds c.last_covered-time.ensures.covers in
    record { fits = omega (arith, c.program-program.ensures.layout.few_outs, told.exists) }

pub move_after-requires-clause-within : goal.move_after-requires-clause-within
move_after-requires-clause-within g c =
    let stands = c.requires.stands in
    let finds = rw c.program-program.ensures.program at c.in-Some.ensures.finds in
    let told = told_by c.args.style c.args.checked.now stands.0 c.args.engines.now c.args.next_times.now c.in-Some.k c.last_covered-time.result c.in-Some.stretch stands.1 finds c.last_covered-time.ensures.covers in
    omega (arith, c.program-program.ensures.layout.few_outs, told.exists)

pub move_after-requires-clause-early : goal.move_after-requires-clause-early
move_after-requires-clause-early g c =
    let stands = c.requires.stands in
    let finds = rw c.program-program.ensures.program at c.in-Some.ensures.finds in
    let told = told_by c.args.style c.args.checked.now stands.0 c.args.engines.now c.args.next_times.now c.in-Some.k c.last_covered-time.result c.in-Some.stretch stands.1 finds c.last_covered-time.ensures.covers in
    omega (arith, told.early, stands.1.count)

pub returns-in-Some-clause-gives : goal.returns-in-Some-clause-gives
returns-in-Some-clause-gives g c =
    let program = c.args.checked.now in let engines = c.args.engines.now in let next_times = c.args.next_times.now in let stands = c.requires.stands in let k = c.in-Some.k in let time = c.last_covered-time.result in
    let finds = rw c.program-program.ensures.program at c.in-Some.ensures.finds in
    let told = told_by c.args.style program stands.0 engines next_times k time c.in-Some.stretch stands.1 finds c.last_covered-time.ensures.covers in
    record {
      first = λ rows stands. (told_by c.args.style program rows engines next_times k time c.in-Some.stretch stands finds c.last_covered-time.ensures.covers).first;
      placed = λ rows stands. (told_by c.args.style program rows engines next_times k time c.in-Some.stretch stands finds c.last_covered-time.ensures.covers).placed;
      none = λ none. cc;
      given = record {
        exists = told.exists;
        taken = omega (arith, told.early, stands.1.count);
        moved = refl;
        fewer = fewer_left engines.rows next_times k (time + 1) told.inside (omega (arith, told.upward)) (omega (arith, told.early, stands.1.count));
      };
    }

pub returns-in-Some-clause-cursor : goal.returns-in-Some-clause-cursor
returns-in-Some-clause-cursor g c =
    let program = c.args.checked.now in let next_times = c.args.next_times.now in let stands = c.requires.stands in let k = c.in-Some.k in let time = c.last_covered-time.result in
    let finds = rw c.program-program.ensures.program at c.in-Some.ensures.finds in
    let told = told_by c.args.style program stands.0 c.args.engines.now next_times k time c.in-Some.stretch stands.1 finds c.last_covered-time.ensures.covers in
    λ rows taken known.
    let before = known_before program rows next_times k time told.inside told.upward known in
    cursor_after program rows next_times k time c.in-Some.stretch c.move_after.new.self told.inside told.upward (finds rows taken before) (rw taken.count c.move_after.ensures.next_time) c.move_after.ensures.kept

pub returns-in-Some-clause-moves : goal.returns-in-Some-clause-moves
returns-in-Some-clause-moves g c = record {
  here = c.move_after.ensures.here;
  next = c.move_after.ensures.next;
  keeps = λ stretch kept later more.
      let same : c.in-Some.stretch ≡ stretch = same_stretch c.in-Some.k c.args.cursor.now.out c.in-Some.stretch stretch (c.in-Some.ensures.goes_on stretch kept) in
      let stays = c.move_after.ensures.keeps more (subst (λ (s : Stretch). c.last_covered-time.result < s.last) (sym same) later) in
      subst (λ (s : Stretch). c.move_after.new.self.stretch ≡ Some s) same stays;
}

pub returns-in-Some-clause-keeps : goal.returns-in-Some-clause-keeps
returns-in-Some-clause-keeps g c = λ rows stands output there next.
    let finds = rw c.program-program.ensures.program at c.in-Some.ensures.finds in
    let goes_on = goes_past c.args.style c.args.checked.now rows c.args.engines.now c.args.next_times.now c.in-Some.k c.last_covered-time.result c.in-Some.stretch stands finds c.last_covered-time.ensures.covers output there next in
    let stays = c.move_after.ensures.keeps (omega (arith, goes_on.early, stands.count)) goes_on.later in
    rw stays refl
