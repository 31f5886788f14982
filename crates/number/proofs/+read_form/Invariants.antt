-- The proof of the cycle of calls {read_form}. The measure is `left`, the bytes that the number may still have.
use Rattle.number.proofs.+read_form.Given as goal

abbrev pub decreases-read_form : goal.decreases-read_form
decreases-read_form l =
    l.left
