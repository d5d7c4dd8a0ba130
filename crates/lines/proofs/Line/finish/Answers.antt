use Prim.Native.Nat.{◌<◌}
use native.Mathlib.Omega.{arith}
use mathlib.Core.Path.{◌≡◌}
use borrow.Author.Rules.{rules}
use Rattle.lines.specs.Scraps.{gathered}
use Rattle.lines.proofs.Cases.{finish_straight, finish_gathered}
use Rattle.lines.proofs.Copies.{gather_part, gather_whole}
use Rattle.lines.proofs.Line.finish.Goals.{then-self-eq0, else-self-eq0, then-self-n, else-self-n}
use Rattle.lines.proofs.Line.finish.Goals as goal

pub returns : goal.returns
returns c =
    elim c.if-self-eq0.branch [
      | then-self-eq0 w ↦
          let e = rw (← w.given-is, ← w.books-is, ← w.strips-is) at w.arrive-given.ensures in
          finish_straight _ _ _ _ _ _ _ _ _ _ _ w.if-self-eq0.true w.hold-is e c.settle.ensures
      | else-self-eq0 w ↦
          let e = rw (← w.given-is, ← w.books-is, ← w.strips-is, ← w.hold-is) at w.arrive-given-else-self-eq0.ensures in
          let z = w.if-self-eq0.false in
          let p : 0 < c.args.self.held = omega (arith, z) in
          let g : c.if-self-eq0.hold ≡ gathered c.args.n c.args.self.held c.args.hold.now c.args.scrap.now =
          elim w.if-self-n.branch [
            | then-self-n v ↦ rw (w.hold-is, v.hold-is) (gather_part c.args.self.held c.args.hold.now c.args.scrap.now c.requires.0 c.args.n _ p v.if-self-n.true c.requires.2 (search (rules, v.overwrite.ensures)))
            | else-self-n v ↦ rw (w.hold-is, v.hold-is) (gather_whole c.args.self.held c.args.hold.now c.args.scrap.now c.requires.0 c.args.n v.if-self-n.false)
          ] in
          finish_gathered _ _ _ _ _ _ _ _ _ _ _ c.requires.0 z c.requires.2 g e c.settle.ensures
    ]
