-- `opening::headers::read_count`: each way out of the loop is one law of proofs/Digits.
use Rattle.std.proofs.Common.{◌≡◌, sym, arith}
use Rattle.std.proofs.lemmas.Result.{err_from_is_err_and}
use Rattle.opening.specs.Header.{counting}
use Rattle.opening.proofs.Digits.{counting_none, counting_more, counting_fits, counted_spoilt, counted_read, digit_most}
use Rattle.opening.proofs.headers.read_count.Goals as goal

pub loop-i-init : goal.loop-i-init
loop-i-init c = counting_none _ _

pub returns-in_err-count : goal.returns-in_err-count
returns-in_err-count c =
    let p = err_from_is_err_and c.from_residual.result c.from_residual.ensures.1 in
    rw (p.1, p.2, c.in_err-count.ensures.1)
    (sym (counted_spoilt c.args.block.now c.loop-i.i c.args.digits (omega arith) c.loop-i.invariant.digits c.in_err-count.ensures.0))

pub overflow_add-count : goal.overflow_add-count
overflow_add-count c =
    omega (arith, counting_fits c.loop-i.invariant (omega arith), c.in_ok-count.ensures.1, digit_most _ c.in_ok-count.ensures.0)

pub loop-i-preserved : goal.loop-i-preserved
loop-i-preserved c = rw c.in_ok-count.ensures.1 (counting_more c.loop-i.invariant (omega arith) c.in_ok-count.ensures.0)

pub returns : goal.returns
unfolding counting
returns c =
    let all : c.loop-i.i ≡ c.args.digits = omega arith in
    sym (counted_read (rw all at c.loop-i.invariant))
