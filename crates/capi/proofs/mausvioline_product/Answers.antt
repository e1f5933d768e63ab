use Rattle.capi.proofs.Coded.{product-answer}
use Rattle.capi.proofs.mausvioline_product.Goals as goal

pub code_of-requires : goal.code_of-requires
code_of-requires c =
    product-answer _ _ _ _ _ _ _ _ c.product.result _ _ c.product.ensures.given
