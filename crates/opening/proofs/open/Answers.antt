-- Each test of the code is the one of the definition, in its order.
use Rattle.std.proofs.Common.{Bool, ◌≡◌, sym, ◌∙◌, ap, arith}
use Rattle.std.specs.Prelude.{None}
use Rattle.model.specs.declared.Geometry.{Geometry}
use Rattle.model.specs.Geometry.{allowed, memory_need, flash_need}
use Rattle.model.proofs.Calls.{opens, opening-2, opening-11, opening-11-eighth, opening-2-need, opening-3}
use Rattle.opening.proofs.Opening.{refused, passed}
use Rattle.opening.proofs.open.Goals as goal

-- the test of the geometry read is one of the definition's
tested : {r b : Bool} {g own : Geometry} → g ≡ own → r ≡ allowed g → r ≡ b → allowed own ≡ b
tested e test is = rw e at (sym test ∙ is)

pub returns-then-memory-lt32 : goal.returns-then-memory-lt32
returns-then-memory-lt32 c = refused _ _ _ (opening-2 _ None (omega arith))

pub returns-then-not-is_allowed : goal.returns-then-not-is_allowed
returns-then-not-is_allowed c =
    let own = c.geometry_of-g.ensures in
    refused _ _ _ (opening-11 _ None (omega arith) (tested own c.is_allowed.ensures c.if-not-is_allowed.true))

pub returns-then-u32_at-ne0 : goal.returns-then-u32_at-ne0
returns-then-u32_at-ne0 c =
    let own = c.geometry_of-g.ensures in
    refused _ _ _ (opening-11-eighth _ None (omega arith) (tested own c.is_allowed.ensures c.if-not-is_allowed.false) (omega arith))

pub returns-then-memory-memory_need : goal.returns-then-memory-memory_need
returns-then-memory-memory_need c =
    let own = c.geometry_of-g.ensures in
    let fine = tested own c.is_allowed.ensures c.if-not-is_allowed.false in
    refused _ _ _ (opening-2-need _ None (omega arith) fine (omega arith) (omega (arith, ap memory_need own)))

pub returns-then-flash-flash_need : goal.returns-then-flash-flash_need
returns-then-flash-flash_need c =
    let own = c.geometry_of-g.ensures in
    let fine = tested own c.is_allowed.ensures c.if-not-is_allowed.false in
    refused _ _ _ (opening-3 _ None (omega arith) fine (omega arith) (omega (arith, ap memory_need own)) (omega (arith, ap flash_need own)))

pub returns : goal.returns
returns c =
    let own = c.geometry_of-g.ensures in
    let fine = tested own c.is_allowed.ensures c.if-not-is_allowed.false in
    passed _ _ _ own (opens _ (record { long = omega arith; fine = fine; eighth_zero = omega arith; memory_fits = omega (arith, ap memory_need own); flash_fits = omega (arith, ap flash_need own) }) None)
