use Rattle.std.proofs.Common.{◌≡◌, ◌+◌, ◌≤◌, length, take, drop, min, sym, ap, ◌∙◌, arith}
use Rattle.std.specs.Arc.{arc_value}
use Rattle.std.proofs.Math.Nat.{min-le_left}
use Rattle.std.proofs.lemmas.List.{length-take}
use Rattle.seq.proofs.shared.Shared.window.Goals as goal
use Rattle.seq.proofs.Windows.{window_of}

pub returns : goal.returns
returns g c =
    let whole = (arc_value c.self.inside.whole).items in
    let behind = drop c.self.inside.start whole in
    let shown : c.args.self.now ≡ take c.self.inside.count behind = sym c.self.view_is in
    let long : length c.args.self.now ≡ min c.self.inside.count (length behind) = ap length shown ∙ length-take c.self.inside.count behind in
    let most = min-le_left c.self.inside.count (length behind) in
    let fits : c.args.start + c.args.count ≤ c.self.inside.count = omega (arith, long, most, c.requires) in
    let same : (arc_value c.in_ok-try_clone.field-0).items ≡ whole = ap (λ v. v.items) c.in_ok-try_clone.ensures in
    let cut = window_of whole c.self.inside.start c.self.inside.count c.args.start c.args.count fits in
    ap (λ items. take c.args.count (drop (c.self.inside.start + c.args.start) items)) same ∙ sym cut ∙ ap (λ items. take c.args.count (drop c.args.start items)) (sym shown)
