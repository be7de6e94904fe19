use Rattle.std.proofs.Common.{ap, rules, ◌≡◌, ◌∙◌, [], List, ℕ, subst}
use Rattle.std.specs.Borrow.{Bor}
use Rattle.std.specs.Prelude.{codes, unwrap_or}
use Rattle.clap.specs.Words.{first_of, found_of, rows_of}
use Rattle.clap.proofs.WalkLemmas.{first_value-rows}
use Rattle.command_line.specs.Requests.{IsFlag}
use Rattle.command_line.proofs.Readings.{is_flag, or_else}
use Rattle.command_line.proofs.request.asked.Goals.{in-match+else-get_flag+in-Some, in-match+else-get_flag+in-None, in-keep, in-check+else-get_flag-2, in-dump, in-sim+in_ok-texts-in-sim, in-run+in_ok-texts-in-run, in-draw, in-compile+in_ok-texts-in-compile}
use Rattle.command_line.proofs.request.asked.Goals as goal

abbrev text : Bor (List ℕ) → List ℕ
text s = s.now

pub returns-then-get_flag : goal.returns-then-get_flag
returns-then-get_flag c =
    let code : text c.unwrap_or-code.result ≡ unwrap_or (first_of (codes "code") (rows_of (found_of c.args.found.now))) [] =
    ap text c.unwrap_or-code.ensures ∙ or_else text c.get_str.result _
    ∙ ap (λ found. unwrap_or found []) (c.get_str.ensures ∙ first_value-rows (found_of c.args.found.now) (codes "code")) in
    let given = is_flag c.args.found.now (codes "explain") c.get_flag.result c.get_flag.ensures.value c.get_flag.ensures.other in (
      search rules,
      code,
      subst (λ flag. IsFlag (codes "explain") (rows_of (found_of c.args.found.now)) flag) c.if-get_flag.true given,
      is_flag c.args.found.now (codes "pcap") c.get_flag-pcap.result c.get_flag-pcap.ensures.value c.get_flag-pcap.ensures.other,
    )

pub returns-then-get_flag-2 : goal.returns-then-get_flag-2
returns-then-get_flag-2 c =
    let given = is_flag c.args.found.now (codes "graph") c.get_flag-in-check.result c.get_flag-in-check.ensures.value c.get_flag-in-check.ensures.other in
    (search rules, c.check_input-input.ensures, subst (λ flag. IsFlag (codes "graph") (rows_of (found_of c.args.found.now)) flag) c.if-get_flag-2.true given)

pub returns : goal.returns
returns c = elim c.match-name.branch [
  | in-match+else-get_flag+in-Some w ↦
      let code : text w.unwrap_or-code.result ≡ unwrap_or (first_of (codes "code") (rows_of (found_of c.args.found.now))) [] =
      ap text w.unwrap_or-code.ensures ∙ or_else text w.get_str.result _
      ∙ ap (λ found. unwrap_or found []) (w.get_str.ensures ∙ first_value-rows (found_of c.args.found.now) (codes "code")) in
      let explain = is_flag c.args.found.now (codes "explain") w.get_flag.result w.get_flag.ensures.value w.get_flag.ensures.other in
      rw w.result-is (
        search rules,
        code,
        subst (λ flag. IsFlag (codes "explain") (rows_of (found_of c.args.found.now)) flag) w.if-get_flag.false explain,
        is_flag c.args.found.now (codes "pcap") w.get_flag-pcap.result w.get_flag-pcap.ensures.value w.get_flag-pcap.ensures.other,
        w.in-Some.ensures,
      )
  | in-match+else-get_flag+in-None w ↦
      let code : text w.unwrap_or-code.result ≡ unwrap_or (first_of (codes "code") (rows_of (found_of c.args.found.now))) [] =
      ap text w.unwrap_or-code.ensures ∙ or_else text w.get_str.result _
      ∙ ap (λ found. unwrap_or found []) (w.get_str.ensures ∙ first_value-rows (found_of c.args.found.now) (codes "code")) in
      let explain = is_flag c.args.found.now (codes "explain") w.get_flag.result w.get_flag.ensures.value w.get_flag.ensures.other in
      rw w.result-is (
        search rules,
        code,
        subst (λ flag. IsFlag (codes "explain") (rows_of (found_of c.args.found.now)) flag) w.if-get_flag.false explain,
        is_flag c.args.found.now (codes "pcap") w.get_flag-pcap.result w.get_flag-pcap.ensures.value w.get_flag-pcap.ensures.other,
        is_flag c.args.found.now (codes "stream") w.get_flag-in-None.result w.get_flag-in-None.ensures.value w.get_flag-in-None.ensures.other,
        w.in-None.ensures,
      )
  | in-keep w ↦
      let code : text w.unwrap_or.result ≡ unwrap_or (first_of (codes "code") (rows_of (found_of c.args.found.now))) [] =
      ap text w.unwrap_or.ensures ∙ or_else text w.get_str-in-keep.result _
      ∙ ap (λ found. unwrap_or found []) (w.get_str-in-keep.ensures ∙ first_value-rows (found_of c.args.found.now) (codes "code")) in
      rw w.result-is (
        search rules,
        code,
        is_flag c.args.found.now (codes "not") w.get_flag-in-keep.result w.get_flag-in-keep.ensures.value w.get_flag-in-keep.ensures.other,
      )
  | in-check+else-get_flag-2 w ↦
      let graph = is_flag c.args.found.now (codes "graph") w.get_flag-in-check.result w.get_flag-in-check.ensures.value w.get_flag-in-check.ensures.other in
      rw w.result-is (
        search rules,
        w.check_input-input.ensures,
        subst (λ flag. IsFlag (codes "graph") (rows_of (found_of c.args.found.now)) flag) w.if-get_flag-2.false graph,
        is_flag c.args.found.now (codes "asm") w.get_flag-in-check-2.result w.get_flag-in-check-2.ensures.value w.get_flag-in-check-2.ensures.other,
      )
  | in-dump w ↦ rw w.result-is (
    search rules,
    is_flag c.args.found.now (codes "stream") w.get_flag-in-dump.result w.get_flag-in-dump.ensures.value w.get_flag-in-dump.ensures.other,
    is_flag c.args.found.now (codes "time") w.get_flag-in-dump-2.result w.get_flag-in-dump-2.ensures.value w.get_flag-in-dump-2.ensures.other,
  )
  | in-sim+in_ok-texts-in-sim w ↦ rw w.result-is (search rules, w.in_ok-texts-in-sim.ensures)
  | in-run+in_ok-texts-in-run w ↦ rw w.result-is (search rules, w.in_ok-texts-in-run.ensures)
  | in-draw w ↦ rw w.result-is (
    search rules,
    is_flag c.args.found.now (codes "text") w.get_flag-in-draw.result w.get_flag-in-draw.ensures.value w.get_flag-in-draw.ensures.other,
  )
  | in-compile+in_ok-texts-in-compile w ↦ rw w.result-is (search rules, w.in_ok-texts-in-compile.ensures, w.listing_of.ensures)
]
