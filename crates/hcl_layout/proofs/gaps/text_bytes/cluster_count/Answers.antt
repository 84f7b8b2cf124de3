use Rattle.std.proofs.Common.{length, refl}
use Rattle.hcl_layout.proofs.GapsLemmas.TextBytes.{counted}
use Rattle.hcl_layout.proofs.gaps.text_bytes.cluster_count.Goals as goal

pub returns-then-byte_clusters : goal.returns-then-byte_clusters
returns-then-byte_clusters c =
    counted c.args.scanned.now.pairs c.args.i (length c.spelling.result.now) c.spelling.result.now c.args.byte_clusters c.requires.bytes c.if-byte_clusters.true c.spelling.ensures.value refl
