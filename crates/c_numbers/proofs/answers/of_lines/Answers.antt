-- Three numbers of each line.
use Rattle.std.proofs.Common.{◌∙◌, ap, rules, arith}
use Rattle.std.specs.List.{flat_map}
use Rattle.judge_scan.specs.Lines.{no_line}
use Rattle.c_numbers.specs.Answers.{line_numbers}
use Rattle.basics.proofs.Arrays.{map_made}
use Rattle.c_numbers.proofs.Threes.{threes_joined}
use Rattle.c_numbers.proofs.answers.of_lines.Goals as goal

pub returns : goal.returns
returns c =
    let lines = c.args.lines in
    let each = map_made _ line_numbers _ (λ x y q k. search rules) no_line lines _ _ (omega arith) c.map.ensures.items in
    c.copy_from_slice.ensures.after
    ∙ c.as_flattened.ensures.value
    ∙ ap (flat_map (λ l. l)) each
    ∙ threes_joined (λ l. l.t) (λ l. l.work) (λ l. l.supply) no_line lines
