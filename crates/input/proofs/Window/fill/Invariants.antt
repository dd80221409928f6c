use Rattle.std.proofs.Common.{◌<◌, length}
use Rattle.input.specs.Size.{most}
use Rattle.input.specs.Unread.{Grown}
use Rattle.input.proofs.Window.fill.Given as goal

abbrev pub invariant-loop : goal.invariant-loop
invariant-loop g l =
    record {
      grown : Grown l.initial.self l.self;
      room : length l.self < most;
      few : length l.initial.self < l.least → length l.self < l.least;
    }
