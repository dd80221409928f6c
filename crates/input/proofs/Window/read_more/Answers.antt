use Rattle.std.proofs.Common.{◌≡◌, ◌≤◌, ◌∙◌, ap, arith, length, drop}
use Rattle.input.specs.Unread.{unread}
use Rattle.input.proofs.Cuts.{grown, moved, same_grown}
use Rattle.input.proofs.Window.read_more.Goals as goal
use Rattle.input.proofs.Window.read_more.Goals.{then-self-gt0, else-self-gt0}

pub returns-clause-grown : goal.returns-clause-grown
returns-clause-grown g c =
    let f = c.if-self-gt0.self-inside in
    let front : (unread f ≡ c.args.self.now) × (f.start ≤ f.end) × (f.end ≤ length f.bytes.items) =
    elim c.if-self-gt0.branch [
      | then-self-gt0 w ↦
          let m = moved c.self.inside.start c.self.inside.end c.self.inside.bytes.items (omega arith) (omega arith) in
          rw w.self-inside-is (rw w.copy_within.ensures.items (m ∙ c.self.view_is), omega arith, omega (arith, w.copy_within.ensures.len))
      | else-self-gt0 w ↦ rw w.self-inside-is (c.self.view_is, omega arith, omega arith)
    ] in
    let same = c.read_behind.ensures.front ∙ c.make_room.ensures.front in
    rw (← front.0) (grown f.start f.end c.in_ok-n.n f.bytes.items c.read_behind.new.bytes.items front.1 front.2 same)

pub returns-in_err-n-clause-grown : goal.returns-in_err-n-clause-grown
returns-in_err-n-clause-grown g c =
    let f = c.if-self-gt0.self-inside in
    let front : unread f ≡ c.args.self.now =
    elim c.if-self-gt0.branch [
      | then-self-gt0 w ↦
          let m = moved c.self.inside.start c.self.inside.end c.self.inside.bytes.items (omega arith) (omega arith) in
          rw (w.self-inside-is, w.copy_within.ensures.items) (m ∙ c.self.view_is)
      | else-self-gt0 w ↦ rw w.self-inside-is c.self.view_is
    ] in
    let same = c.read_behind.ensures.front ∙ c.make_room.ensures.front in
    same_grown _ _ (ap (drop f.start) same ∙ front)
