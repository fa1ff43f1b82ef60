use Rattle.pool_law.proofs.Booking.{has_answer, has_left}
use Rattle.pool_law.proofs.Having.{has_it}
use Rattle.pool_law.proofs.laws.a_book_has_each_message_as_a_front_charges_it.Goals as goal

pub returns : goal.returns
returns c = record {
  is = λ site book moment message legal. has_it site book moment message legal;
  alone = λ site book moment message answer left has. (
    has_answer site book moment message answer left has,
    has_left site book moment message answer left has,
  );
}
