mod Listing
