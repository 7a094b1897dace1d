use Rattle.std.proofs.Common.{◌≡◌, ap, sym, ◌∙◌, subst, rules, arith, List, [], ℕ, length, map}
use Rattle.gn_out_files.specs.declared.out_file.OutFile.{OutFile}
use Rattle.gn_out_files.specs.declared.out_files.FileKey.{FileKey}
use Rattle.gn_out_files.specs.Files.{put_of, with_files, in_path_order}
use Rattle.gn_out_files.specs.Keys.{files_of, AreFrom}
use Rattle.gn_out_files.proofs.FileLemmas.{one_put}
use Rattle.gn_out_files.proofs.out_files.in_order.Goals as goal

pub loop-file-preserved : goal.loop-file-preserved
loop-file-preserved c =
    let len : c.len.result ≡ c.pop.new.self.len = c.len.ensures in
    let same : c.len.result ≡ length c.pop.new.self.items = omega (arith, len, c.pop.new.self.ok.0) in
    record {
      order = one_put _ c.pop.new.self.items c.in-Some.file (files_of c.loop-file.ordered.entries) _ _ c.in-Some.ensures.items c.in_ok-put_among.ensures.files c.loop-file.invariant.order;
      numbers = subst (λ (n : ℕ). AreFrom n c.put_among.new.files.entries) same c.in_ok-put_among.ensures.numbers;
    }

pub returns : goal.returns
unfolding in_path_order
returns c =
    let none : c.loop-file.files.items ≡ [] = search rules in
    ap (λ (fs : List OutFile). with_files (map put_of fs) (files_of c.loop-file.ordered.entries)) (sym none) ∙ c.loop-file.invariant.order
    ∙ ap (λ (es : List (FileKey × List ℕ)). with_files (map put_of c.args.files.items) (files_of es)) c.new-ordered.ensures.empty
