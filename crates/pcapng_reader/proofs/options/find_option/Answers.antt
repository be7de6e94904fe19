use Rattle.std.proofs.Common.{◌≡◌, ◌+◌, take, drop, arith, sym, ap, ◌∙◌, Some}
use Rattle.std.proofs.lemmas.List.{take_rest}
use Rattle.pcap_reader.specs.Savefile.{number}
use Rattle.pcapng_reader.specs.Options.{padded}
use Rattle.pcapng_reader.proofs.OptionLemmas.{option_found, option_passed, option_short, rest_after}
use Rattle.pcapng_reader.proofs.options.find_option.Goals as goal

pub returns-then-found-code : goal.returns-then-found-code
returns-then-found-code c =
    let rest = c.loop-rest.rest.now in
    let found : c.short_at-found.result ≡ number c.args.big 2 rest = c.short_at-found.ensures in
    let value : c.short_at-value.result ≡ number c.args.big 2 (drop 2 rest) = c.short_at-value.ensures ∙ ap (number c.args.big 2) (take_rest rest 2) in
    sym c.loop-rest.invariant ∙ option_found c.args.big c.args.code rest c.loop-rest-test.true (λ none. c.if-found-eq-END.false (found ∙ none)) (omega (arith, value)) (sym found ∙ c.if-found-code.true)
    ∙ ap (λ n. Some (take n (drop 4 rest))) (omega (arith, value))

pub loop-rest-preserved : goal.loop-rest-preserved
loop-rest-preserved c =
    let rest = c.loop-rest.rest.now in
    let found : c.short_at-found.result ≡ number c.args.big 2 rest = c.short_at-found.ensures in
    let value : c.short_at-value.result ≡ number c.args.big 2 (drop 2 rest) = c.short_at-value.ensures ∙ ap (number c.args.big 2) (take_rest rest 2) in
    option_passed c.args.big c.args.code rest _ c.loop-rest-test.true (λ none. c.if-found-eq-END.false (found ∙ none)) (omega (arith, value)) (λ same. c.if-found-code.false (found ∙ same))
    (rest_after rest c.min.result (4 + padded (number c.args.big 2 (drop 2 rest))) (omega (arith, c.min.ensures, c.padded_to_words.ensures, ap padded value)))
    ∙ c.loop-rest.invariant

pub returns : goal.returns
returns c = sym c.loop-rest.invariant ∙ option_short c.args.big c.args.code c.loop-rest.rest.now (omega arith)
