use Rattle.pcap_reader.proofs.AnswerLemmas.{tells}
use Rattle.pcap_reader.proofs.FeedLemmas.{are_bytes, holds-on, holds_next}
use Rattle.std.proofs.Common.{◌++◌, Some, None, Ok, Err, refl, arith}
use Rattle.pcap_reader.proofs.feed.Feed.piece.Goals as goal

pub returns-in-Some-clause-holds : goal.returns-in-Some-clause-holds
returns-in-Some-clause-holds c = λ given fed held short.
    holds-on given fed c.args.bytes.now c.args.self.now c.in-Some.fault (are_bytes _ (λ i. omega (arith, c.type_inv.bytes i))) c.in-Some.is held

pub returns-in-Some-clause-tells : goal.returns-in-Some-clause-tells
returns-in-Some-clause-tells c = λ given fed held short.
    tells given (fed ++ c.args.bytes.now) c.args.self.now (Err c.in-Some.fault)
    (holds-on given fed c.args.bytes.now c.args.self.now c.in-Some.fault (are_bytes _ (λ i. omega (arith, c.type_inv.bytes i))) c.in-Some.is held) c.in-Some.is

pub returns-in-Ok-clause-holds : goal.returns-in-Ok-clause-holds
returns-in-Ok-clause-holds c = λ given fed held short.
    holds_next given fed c.args.bytes.now c.take.new.self None held.0 (are_bytes _ (λ i. omega (arith, c.type_inv.bytes i))) c.take.ensures.same (c.in-Ok.ensures.grown given fed held short)

pub returns-in-Ok-clause-tells : goal.returns-in-Ok-clause-tells
returns-in-Ok-clause-tells c = λ given fed held short.
    tells given (fed ++ c.args.bytes.now) c.take.new.self (Ok tt)
    (holds_next given fed c.args.bytes.now c.take.new.self None held.0 (are_bytes _ (λ i. omega (arith, c.type_inv.bytes i))) c.take.ensures.same (c.in-Ok.ensures.grown given fed held short)) c.take.ensures.same

pub returns-in-Err-clause-holds : goal.returns-in-Err-clause-holds
returns-in-Err-clause-holds c = λ given fed held short.
    holds_next given fed c.args.bytes.now (record c.take.new.self { fault = Some c.in-Err.fault }) (Some c.in-Err.fault) held.0 (are_bytes _ (λ i. omega (arith, c.type_inv.bytes i))) refl
    (c.in-Err.ensures.grown given fed held short)

pub returns-in-Err-clause-tells : goal.returns-in-Err-clause-tells
returns-in-Err-clause-tells c = λ given fed held short.
    tells given (fed ++ c.args.bytes.now) (record c.take.new.self { fault = Some c.in-Err.fault }) (Err c.in-Err.fault)
    (holds_next given fed c.args.bytes.now (record c.take.new.self { fault = Some c.in-Err.fault }) (Some c.in-Err.fault) held.0 (are_bytes _ (λ i. omega (arith, c.type_inv.bytes i))) refl
    (c.in-Err.ensures.grown given fed held short)) refl
