use Rattle.std.proofs.Common.{◌≡◌, ◌+◌, ◌<◌, [], refl, arith, lt-ltb, le-ltb, length}
use Rattle.refusal.proofs.Table.{reached_first, reached_none}
use Rattle.refusal.proofs.First.{first_here, first_on, first_end, first-refused, first_next}
use Rattle.program.specs.Image.{behind}
use Rattle.program.proofs.Walk.{walk_on}
use Rattle.program.proofs.check_rules.Goals as goal

pub loop-index-init : goal.loop-index-init
unfolding behind
loop-index-init c = (refl, omega arith)

pub returns-then-not-keeps : goal.returns-then-not-keeps
returns-then-not-keeps c =
    let loop = c.loop-index in
    let broken = first_here _ _ _ loop.invariant.1 (rw (lt-ltb _ _ c.loop-index-test.true, ← loop.invariant.0, ← c.keeps.ensures, c.if-not-keeps.true)) in
    first-refused 26 (λ k. k) _ _ _ broken {rest = []} (reached_first _ 0) (omega arith) refl

pub loop-index-preserved : goal.loop-index-preserved
loop-index-preserved c =
    let loop = c.loop-index in (
      walk_on _ _ _ loop.invariant.0 c.behind_first-rest.ensures,
      first_on _ _ _ loop.invariant.1 (omega arith) (rw (lt-ltb _ _ c.loop-index-test.true, ← loop.invariant.0, ← c.keeps.ensures, c.if-not-keeps.false)),
    )

pub returns-then-rest-gt0 : goal.returns-then-rest-gt0
returns-then-rest-gt0 c =
    let loop = c.loop-index in
    let end : loop.index ≡ c.args.count = omega arith in
    let some : 0 < length loop.rest.now = omega arith in
    let broken = first_here _ _ _ loop.invariant.1 (rw (le-ltb _ _ c.loop-index-test.false, ← loop.invariant.0) (lt-ltb _ _ some)) in
    first-refused 26 (λ k. k) _ _ _ (rw end at broken) {rest = []} (reached_first _ 0) (omega arith) refl

pub returns : goal.returns
returns c =
    let loop = c.loop-index in
    let end : c.args.count + 1 ≡ loop.index + 1 = omega arith in
    let past = first_on _ _ _ loop.invariant.1 (omega arith) (rw (le-ltb _ _ c.loop-index-test.false, ← loop.invariant.0) (le-ltb _ _ (omega arith))) in
    reached_none (first_next 26 (λ k. k) _ _ _ (first_end _ _ _ past (omega arith)) (reached_first _ 0) (omega arith))
