use Rattle.std.proofs.Common.{◌∙◌, ◌^◌, ◌%◌, ◌==◌, Bool, List, ap, arith, map, replicate, w8}
use Rattle.std.proofs.lemmas.List.{length-map}
use Rattle.std.proofs.lemmas.Simd.{length-chunk, mask_l-mod, tops_compared, zip2_splat}
use Rattle.std.specs.Simd.Lanes.{chunk, mask_l}
use Rattle.cc_io.proofs.line_start.line_feeds_near.Goals as goal

pub returns : goal.returns
returns c =
    let near = chunk 0 32 c.args.text.now in
    let long = length-chunk 0 32 c.args.text.now c.requires in
    ap (λ (bits : List Bool). mask_l bits % 2 ^ 64) (tops_compared w8 (λ byte feed. byte == feed) near (replicate 32 10) ∙ zip2_splat (λ byte feed. byte == feed) near 32 10 long)
    ∙ mask_l-mod (map (λ byte. byte == 10) near) 64 (omega (arith, length-map near (λ byte. byte == 10), long))
