use Rattle.core_loop.proofs.noting.noted_receipt.Given as goal

abbrev pub ghost-with : goal.ghost-with
ghost-with g a = g.item
